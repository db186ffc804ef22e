-- How many words a target has, as `grind` takes it. RULES 4.
use Prim.Native.Nat.{ℕ, ◌+◌}
use mathlib.Core.Path.{◌≡◌}
use native.Mathlib.Omega.{arith}
use lib.ListN.{length}
use Rattle.algebra.specs.Points.{row_points, target}
use Rattle.algebra.proofs.Consecutive.{length-row_points}
use Rattle.algebra.proofs.Target.{length-target}
use Rattle.field.specs.Field.{p}

pub target_words : (m : ℕ) → length (target p (row_points m)) ≡ m + 1
target_words m = omega (arith, length-target p (row_points m), length-row_points m)

-- and how many points there are
pub ruleset points = length-row_points
