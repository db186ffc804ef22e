-- Invariant: the words from i on are in powers, and the words before i are the given ones.
use mathlib.Core.Path.{◌≡◌}
use mathlib.Core.List.{◌++◌}
use Prim.Native.Nat.{◌+◌, ◌-◌}
use lib.ListN.{length, take, drop}
use Rattle.field.specs.Field.{p}
use Rattle.algebra.specs.Points.{consecutive}
use Rattle.poly.specs.Interpolation.{powers}
use Rattle.poly.proofs.interpolation.expand_powers.Given as goal

abbrev pub invariant-loop-i : goal.invariant-loop-i
invariant-loop-i l = l.v ≡ take l.i l.initial.v ++ powers p (consecutive (l.first + l.i) (length l.initial.v - l.i)) (drop l.i l.initial.v)
