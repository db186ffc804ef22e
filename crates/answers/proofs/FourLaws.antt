-- The four numbers that the box computes are the four answers: three private parts with blinders, and (u v − t) / Z(s),
-- which is H'(s) because A'(s) B'(s) − C'(s) = Z(s) H'(s) and Z(s) is not 0. RULES 5.
use mathlib.Core.Path.{◌≡◌}
use mathlib.Core.List.{List}
use Prim.Native.Nat.{ℕ, ◌+◌, ◌*◌, ◌%◌, ◌<◌}
use native.Mathlib.Nat.{mod-lt}
use native.Mathlib.Omega.{arith}
use Rattle.algebra.specs.Congruence.{◌≈⟨◌⟩◌}
use Rattle.algebra.specs.Polynomial.{value}
use Rattle.algebra.specs.Blinding.{blinded}
use Rattle.algebra.proofs.Congruence.{≈_sym, ≈_trans, ≈-plus, ≈-times, ≈-product, ≈-reduced, ≈-words, by}
use Rattle.algebra.proofs.Inverse.{positive, cancel}
use Rattle.algebra.proofs.Blinders.{blinded-value}
use Rattle.circuit.specs.WellFormed.{Formed}
use Rattle.qap.proofs.Standard.{row-sound}
use Rattle.algebra.proofs.Blinding.{divides-value}
use Rattle.algebra.specs.Prime.{FieldPrime}
use Rattle.circuit.specs.Circuit.{publics, columns}
use Rattle.rows.specs.Rows.{RowsHold}
use Rattle.qap.specs.declared.Blinders.{Blinders}
use Rattle.qap.specs.Polynomials.{target_of, blinder_a, blinder_b, blinder_c, IsQuotient}
use Rattle.qap.specs.Answers.{IsAnswers}
use Rattle.qap.proofs.Parts.{part_exists}
use Rattle.qap.proofs.Quotients.{quotient_exists}
use Rattle.evaluation.specs.declared.ThreeValues.{ThreeValues}
use Rattle.evaluation.specs.Values.{ThreeAt}
use Rattle.qap.specs.Setting.{row_setting, points_of}

module _ {p : ℕ} (field : FieldPrime p) where
  module _ {c : List ℕ} (formed : Formed p c) (a : List ℕ) (d : Blinders) (s : ℕ) (off : value (target_of (row_setting p) c) s ≈⟨ p ⟩ 0 → ⊥) where
    -- the word of A + d Z at s is the blinded polynomial there
    word_at_lem : (f k : List ℕ) {r : ℕ} → r ≡ (value f s + value k s * value (target_of (row_setting p) c) s) % p → r ≈⟨ p ⟩ value (blinded p (points_of (row_setting p) c) f k) s
    word_at_lem f k e = rw (e, blinded-value p (points_of (row_setting p) c) f k s) (≈-reduced p (value f s + value k s * value (target_of (row_setting p) c) s))

    fourth-word : {h : List ℕ} {w : ThreeValues} {z r : ℕ} → IsQuotient (row_setting p) c a d h → ThreeAt p c a 0 d s w → z ≡ value (target_of (row_setting p) c) s % p → r < p →
        w.first * w.second ≈⟨ p ⟩ w.third + z * r → r ≡ value h s % p
    fourth-word {h} {w} {z} {r} q all is-z below e =
        let Z = value (target_of (row_setting p) c) s in
        let u = word_at_lem q.A (blinder_a d) (all.first q.A q.whole_a) in
        let v = word_at_lem q.B (blinder_b d) (all.second q.B q.whole_b) in
        let t = word_at_lem q.C (blinder_c d) (all.third q.C q.whole_c) in
        let plain : z ≈⟨ p ⟩ Z = rw is-z (≈-reduced p Z) in
        let same : r * Z ≈⟨ p ⟩ value h s * Z =
        by
        (≈-plus (≈-plus (≈_sym e) (≈-product u v)) (≈-plus (divides-value q.quotient.divides s) (≈-plus (≈_sym t) (≈-times r (≈_sym plain)))))
        (omega arith) in
        ≈-words (≈_trans (cancel field.prime Z off same) (≈_sym (≈-reduced p (value h s)))) below (mod-lt (value h s) (positive field.prime))

    pub four_answers : RowsHold p c a → {own all : ThreeValues} {z r : ℕ} → ThreeAt p c a (publics c) d s own → ThreeAt p c a 0 d s all → z ≡ value (target_of (row_setting p) c) s % p →
        r < p → all.first * all.second ≈⟨ p ⟩ all.third + z * r →
        IsAnswers (row_setting p) c a d s (record { first = own.first; second = own.second; third = own.third; fourth = r })
    four_answers hold {own} {all} mine whole is-z below e =
        let (A, private_a) = part_exists (row-sound field) formed a 0 (publics c) (columns c) in
        let (B, private_b) = part_exists (row-sound field) formed a 1 (publics c) (columns c) in
        let (C, private_c) = part_exists (row-sound field) formed a 2 (publics c) (columns c) in
        let (H, quotient) = quotient_exists (row-sound field) formed a d hold in
        record {
          A = A;
          B = B;
          C = C;
          H = H;
          private_a = private_a;
          private_b = private_b;
          private_c = private_c;
          quotient_h = quotient;
          first = mine.first A private_a;
          second = mine.second B private_b;
          third = mine.third C private_c;
          fourth = fourth-word quotient whole is-z below e;
        }
