-- p is prime, by trial division that the checker runs. So an inverse is the only one, and each record of
-- specs/Field.antt admits one answer. RULES 1.
use mathlib.Core.Path.{◌≡◌, sym, ◌∙◌}
use mathlib.Core.List.{List}
use mathlib.Core.Logic.{⊎_elim}
use Prim.Native.Nat.{ℕ, ◌<◌}
use native.Mathlib.Omega.{arith}
use lib.Seq.{ext_get_or}
use Rattle.algebra.specs.Prime.{Prime, FieldPrime}
use Rattle.algebra.proofs.Congruence.{zero_or_not}
use Rattle.algebra.proofs.PrimeTest.{is_prime}
use Rattle.algebra.proofs.PrimeTest as test
use Rattle.algebra.proofs.Inverse.{positive, inverse_unique}
use Rattle.field.specs.Field.{p, InverseOrZero, InverseTable}

pub p_prime : Prime p
unfolding is_prime
p_prime = test.prime p tt

pub p_positive : 0 < p
p_positive = positive p_prime

-- what every law above this crate asks of p
pub field_prime : FieldPrime p
field_prime = record { prime = p_prime; above = omega arith; below = omega arith }

pub one_answer : {p : ℕ} (prime : Prime p) {a r s : ℕ} → InverseOrZero p a r → InverseOrZero p a s → r ≡ s
one_answer {p} prime {a} h k = ⊎_elim
    (λ is_zero. h.of_zero is_zero ∙ sym (k.of_zero is_zero))
    (λ nonzero. inverse_unique prime (h.of_nonzero nonzero) (k.of_nonzero nonzero))
    (zero_or_not p a)

pub one_table : {p : ℕ} (prime : Prime p) {t u : List ℕ} → InverseTable p t → InverseTable p u → t ≡ u
one_table prime {t} {u} h k = ext_get_or 0 t u (h.entries ∙ sym k.entries)
    (λ i below. inverse_unique prime (h.inverse i (omega arith)) (k.inverse i (omega arith)))
