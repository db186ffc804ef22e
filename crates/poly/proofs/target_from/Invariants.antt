-- Invariant: the words from i on are the target of the points from first + i on.
use mathlib.Core.Path.{◌≡◌}
use Prim.Native.Nat.{◌+◌, ◌-◌}
use lib.ListN.{drop}
use Rattle.algebra.specs.Points.{consecutive, target}
use Rattle.field.specs.Field.{p}
use Rattle.poly.proofs.target_from.Given as goal

abbrev pub invariant-loop-i : goal.invariant-loop-i
invariant-loop-i l = drop l.i l.z ≡ target p (consecutive (l.first + l.i) (l.last - l.i))
