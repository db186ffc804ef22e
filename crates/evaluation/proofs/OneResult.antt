-- The contracts admit one result each where the words lent are basis values at some point: any two are equal. RULES 10.
use mathlib.Core.Path.{◌≡◌, sym, ◌∙◌}
use mathlib.Core.List.{List}
use Prim.Native.Nat.{ℕ, ◌*◌}
use native.Mathlib.Omega.{arith}
use Rattle.algebra.specs.Congruence.{◌≈⟨◌⟩◌}
use Rattle.algebra.specs.Basis.{BasisValues}
use Rattle.algebra.proofs.Congruence.{≈_sym, by}
use Rattle.algebra.proofs.Inverse.{solve_unique}
use Rattle.algebra.specs.Prime.{FieldPrime}
use Rattle.basis.specs.BasisAt.{BasisAt}
use Rattle.circuit.specs.Circuit.{rows, columns}
use Rattle.circuit.specs.WellFormed.{Formed}
use Rattle.rows.specs.Sums.{WholeSums}
use Rattle.qap.specs.declared.Blinders.{Blinders}
use Rattle.qap.proofs.Parts.{part_exists}
use Rattle.qap.specs.Setting.{row_setting, points_of}
use Rattle.qap.specs.Polynomials.{blinder_a, blinder_b, blinder_c}
use Rattle.qap.proofs.Standard.{row-sound}
use Rattle.evaluation.specs.declared.ThreeValues.{ThreeValues}
use Rattle.evaluation.specs.Values.{BlindedAt, ThreeAt, PartValue, PrivateParts, WholeValues, QuotientValue}

module _ {p : ℕ} (field : FieldPrime p) where
  module _ (c a : List ℕ) (formed : Formed p c) (s : ℕ) where
    pub part_value_determined : (matrix from to : ℕ) {basis : List ℕ} {r r' : ℕ} → BasisValues p (points_of (row_setting p) c) s basis →
        PartValue p c a matrix from to basis r → PartValue p c a matrix from to basis r' → r ≡ r'
    part_value_determined matrix from to at v v' =
        let (f, part) = part_exists (row-sound field) formed a matrix from to in
        v.at s at f part ∙ sym (v'.at s at f part)

    blinded-once : (matrix from : ℕ) (d : List ℕ) {r r' : ℕ} → BlindedAt p c a matrix from d s r → BlindedAt p c a matrix from d s r' → r ≡ r'
    blinded-once matrix from d v v' =
        let (f, part) = part_exists (row-sound field) formed a matrix from (columns c) in
        v f part ∙ sym (v' f part)

    three-once : (from : ℕ) (d : Blinders) {r r' : ThreeValues} → ThreeAt p c a from d s r → ThreeAt p c a from d s r' → r ≡ r'
    three-once from d v v' =
        let one = blinded-once 0 from (blinder_a d) v.first v'.first in
        let two = blinded-once 1 from (blinder_b d) v.second v'.second in
        let three = blinded-once 2 from (blinder_c d) v.third v'.third in
        λ i. record { first = one i; second = two i; third = three i }

    module _ (d : Blinders) (z : ℕ) {basis : List ℕ} (at : BasisAt p (rows c) s basis z) {r r' : ThreeValues} where
      pub private_parts_determined : PrivateParts p c a d z basis r → PrivateParts p c a d z basis r' → r ≡ r'
      private_parts_determined v v' = three-once _ d (v.at s at) (v'.at s at)

      pub whole_values_determined : {sums-a sums-b sums-c : List ℕ} → WholeSums p c a sums-a sums-b sums-c →
          WholeValues p sums-a sums-b sums-c d z basis r → WholeValues p sums-a sums-b sums-c d z basis r' → r ≡ r'
      whole_values_determined sums v v' = three-once 0 d (v.at c a s formed sums at) (v'.at c a s formed sums at)

  pub quotient_value_determined : (three : ThreeValues) (z : ℕ) → (z ≈⟨ p ⟩ 0 → ⊥) → {r r' : ℕ} → QuotientValue p three z r → QuotientValue p three z r' → r ≡ r'
  quotient_value_determined three z nonzero v v' =
      solve_unique field.prime z nonzero three.third {v = three.first * three.second} v.word v'.word (by (≈_sym v.divides) (omega arith)) (by (≈_sym v'.divides) (omega arith))
