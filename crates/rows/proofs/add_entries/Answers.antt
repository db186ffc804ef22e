-- Adding entry e makes the sums over the first e entries those over one more.
use mathlib.Core.Path.{sym, ◌∙◌, ap}
use borrow.Author.Rules.{rules}
use lib.ListN.{length}
use Rattle.circuit.proofs.Rows.{row_inside}
use Rattle.circuit.proofs.Totals.{length-table}
use Rattle.field.specs.Field.{p}
use Rattle.rows.specs.Sums.{with_entry}
use Rattle.rows.proofs.Sums.{next-entry, length-entry_sums, no_entries}
use Rattle.rows.proofs.add_entries.Goals as goal

pub loop-e-init : goal.loop-e-init
loop-e-init c = c.requires.span.1 ∙ no_entries p _ _ _ _ _

pub add_entry-requires : goal.add_entry-requires
add_entry-requires c =
    let section = c.requires.formed.1 in
    record {
      formed = (c.requires.formed.0, section.entry c.loop-e.e (search rules), search rules);
      span = (c.requires.span.0, ap length c.loop-e.invariant ∙ length-entry_sums _ _ _ _ _ _ _);
    }

pub loop-e-preserved : goal.loop-e-preserved
loop-e-preserved c =
    let loop = c.loop-e in
    c.add_entry.ensures ∙ ap (with_entry p _ _ _ _ _ _) loop.invariant
    ∙ next-entry p _ _ _ _ _ _ (row_inside (c.requires.formed.1.entry loop.e (search rules)))

pub shape_of-out : goal.shape_of-out
shape_of-out c =
    ap length c.loop-e.invariant ∙ length-entry_sums _ _ _ _ _ _ _ ∙ sym (ap length c.requires.span.1 ∙ length-table _ _)
