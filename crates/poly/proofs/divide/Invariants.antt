-- Invariant: the words from i on are divided, and the words before i are the given ones.
use mathlib.Core.Path.{◌≡◌}
use mathlib.Core.List.{◌++◌}
use Prim.Native.Nat.{◌-◌}
use lib.ListN.{length, take, drop}
use Rattle.field.specs.Field.{p}
use Rattle.poly.specs.Division.{division}
use Rattle.poly.proofs.divide.Given as goal

abbrev pub invariant-loop-i : goal.invariant-loop-i
invariant-loop-i l =
    l.room ≡ take l.i l.initial.room ++ division p l.low (length l.initial.room - length l.low - l.i) (drop l.i l.initial.room)
