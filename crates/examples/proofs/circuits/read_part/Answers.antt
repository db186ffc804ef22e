-- The part is as long as was asked.
use mathlib.Core.Path.{sym}
use lib.Seq.{length-take-le}
use borrow.Author.Rules.{rules}
use Rattle.examples.proofs.circuits.read_part.Goals as goal

pub slice_bounds-part-end : goal.slice_bounds-part-end
slice_bounds-part-end c = sym (length-take-le _ _ (search rules))
