-- Invariant: the words from i on are done, those before i are the given ones, and after is the product over the points from number
-- i on.
use mathlib.Core.Path.{◌≡◌}
use mathlib.Core.List.{◌++◌}
use Prim.Native.Nat.{suc, ◌*◌, ◌%◌}
use lib.ListN.{length, take, drop}
use Rattle.field.specs.Field.{p}
use Rattle.basis.specs.Passes.{mapped, points_from}
use Rattle.basis.proofs.times_after.Given as goal

abbrev pub invariant-loop-i : goal.invariant-loop-i
invariant-loop-i l =
    (l.after ≡ points_from p (length l.initial.out) l.s l.i % p) ×
    (l.out ≡ take l.i l.initial.out ++ mapped (λ j a. a * points_from p (length l.initial.out) l.s (suc j) % p) l.i (drop l.i l.initial.out))
