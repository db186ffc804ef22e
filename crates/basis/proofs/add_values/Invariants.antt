-- Invariant: the values of the first i points are added.
use lib.ListN.{length, get_or}
use Rattle.algebra.specs.Points.{row_points}
use Rattle.field.specs.Field.{p}
use Rattle.basis.specs.Column.{AddedFirst}
use Rattle.basis.proofs.add_values.Given as goal

abbrev pub invariant-loop-i : goal.invariant-loop-i
invariant-loop-i l = AddedFirst p (row_points (length l.y)) (λ k. get_or l.y k 0) l.i l.initial.out l.out
