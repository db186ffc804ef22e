-- Invariant: the words before i are done; those from i on are below p.
use mathlib.Core.Path.{◌≡◌}
use mathlib.Core.List.{◌++◌}
use Prim.Native.Nat.{ℕ, ◌<◌, ◌≤◌}
use lib.ListN.{length, take, drop, get_or}
use Rattle.field.specs.Field.{p}
use Rattle.poly.specs.Interpolation.{differences}
use Rattle.poly.proofs.interpolation.subtract_and_divide.Given as goal

abbrev pub invariant-loop-i : goal.invariant-loop-i
invariant-loop-i l = record {
  below : (k : ℕ) → l.i ≤ k → k < length l.v → get_or l.v k 0 < p;
  done : take l.i l.v ++ differences p (drop l.i l.inverses) l.y (drop l.i l.v) ≡ differences p l.inverses l.y l.initial.v;
}
