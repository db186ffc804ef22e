-- Invariant: a times factor leaves rest modulo p, and rest is a word other than 0. So where rest is 1, factor is the inverse.
-- Rest falls, and never to 0: p is prime, so no number between 1 and p divides it.
use Prim.Native.Nat.{ℕ, ◌*◌, ◌<◌}
use Rattle.algebra.specs.Congruence.{◌≈⟨◌⟩◌}
use Rattle.field.specs.Field.{p}
use Rattle.field.proofs.word_inverse.Given as goal

pub record Leaves (a factor rest : ℕ) : Type 0 where
  pub positive : 0 < rest
  pub below : rest < p
  pub word : factor < p
  pub leaves_rest : a * factor ≈⟨ p ⟩ rest

abbrev pub invariant-loop-rest : goal.invariant-loop-rest
invariant-loop-rest l = Leaves l.a l.factor l.rest

abbrev pub decreases-loop-rest : goal.decreases-loop-rest
decreases-loop-rest l = l.rest
