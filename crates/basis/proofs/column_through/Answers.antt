-- The words are 0 first, so what is added is all that they hold.
use mathlib.Core.Path.{◌≡◌, sym, ◌∙◌}
use native.Mathlib.Omega.{arith}
use lib.ListN.{length}
use Rattle.algebra.proofs.Consecutive.{length-row_points}
use Rattle.field.specs.Field.{p}
use Rattle.slices.specs.Zeros.{zeros}
use Rattle.slices.proofs.Rooms.{length-zeros}
use Rattle.poly.proofs.Words.{words-zero}
use Rattle.basis.proofs.ColumnLaws.{through-added}
use Rattle.basis.proofs.column_through.Goals as goal

pub add_values-requires : goal.add_values-requires
unfolding zeros
add_values-requires c =
    let m = length c.args.out.now in
    let cleared = c.clear.ensures in
    let size : length c.clear.new.out ≡ m = rw (cleared, length-zeros m) in
    (c.requires.0 ∙ sym size, rw cleared (words-zero {p = p} (omega arith) m), rw size c.requires.1)

pub returns : goal.returns
unfolding zeros
returns c =
    let m = length c.args.y.now in
    let cleared = c.clear.ensures in
    through-added (length-row_points m) (rw c.requires.0 cleared) c.add_values.ensures
