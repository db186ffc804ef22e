-- Invariant: the words before i are the weights of their points, and weight is that of point number i, as long as there is one.
use Prim.Native.Nat.{ℕ, suc, ◌*◌, ◌-◌, ◌<◌}
use lib.ListN.{length, get_or}
use Rattle.algebra.specs.Congruence.{Inverse}
use Rattle.algebra.specs.Basis.{descent}
use Rattle.algebra.proofs.ConsecutiveBasis.{ascent}
use Rattle.field.specs.Field.{p}
use Rattle.basis.proofs.weights.Given as goal

-- the weight of point number i of m
abbrev pub WeightAt : ℕ → ℕ → ℕ → Type 0
WeightAt m i w = Inverse p (ascent i * descent p (m - suc i)) w

abbrev pub invariant-loop-i : goal.invariant-loop-i
invariant-loop-i l =
    (l.i < length l.initial.out → WeightAt (length l.initial.out) l.i l.weight) ×
    ((j : ℕ) → j < l.i → WeightAt (length l.initial.out) j (get_or l.out j 0))
