use mathlib.Core.Path.{sym, ◌∙◌, ap}
use borrow.Author.Rules.{rules}
use lib.ListN.{length, length-replicate}
use Rattle.columns.proofs.CoefficientLaws.{length-listed, no_entries}
use Rattle.columns.proofs.coefficients.write_entries.Goals as goal

pub loop-e-init : goal.loop-e-init
loop-e-init c = c.requires.1 ∙ no_entries _ _ _

pub write_entry-requires : goal.write_entry-requires
write_entry-requires c =
    record {
      entry_formed = (c.requires.0.entry c.loop-e.e (search rules), search rules);
      out_value = c.loop-e.invariant;
    }

pub shape_of-out : goal.shape_of-out
shape_of-out c =
    ap length c.loop-e.invariant ∙ length-listed _ _ _ _ ∙ sym (ap length c.requires.1 ∙ length-replicate _ _)
