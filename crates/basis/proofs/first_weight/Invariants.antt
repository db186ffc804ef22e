-- Invariant: weight is the inverse of −1 · −2 · .. · −k, where k inverses are taken.
use Rattle.algebra.specs.Congruence.{Inverse}
use Rattle.algebra.specs.Basis.{descent}
use Rattle.field.specs.Field.{p}
use Rattle.basis.proofs.first_weight.Given as goal

abbrev pub invariant-loop-inverse : goal.invariant-loop-inverse
invariant-loop-inverse l = Inverse p (descent p l.inverse-index) l.weight
