-- Invariant: the words before i are done, those from i on are still to be multiplied, and before is the product over the points
-- before number i.
use mathlib.Core.Path.{◌≡◌}
use mathlib.Core.List.{◌++◌}
use Prim.Native.Nat.{◌*◌, ◌%◌}
use lib.ListN.{take, drop}
use Rattle.field.specs.Field.{p}
use Rattle.basis.specs.Passes.{mapped, points_before, times_before}
use Rattle.basis.proofs.times_before.Given as goal

abbrev pub invariant-loop-i : goal.invariant-loop-i
invariant-loop-i l =
    (l.before ≡ points_before p l.s l.i % p) ×
    (take l.i l.out ++ mapped (λ j a. a * points_before p l.s j % p) l.i (drop l.i l.out) ≡ times_before p l.s l.initial.out)
