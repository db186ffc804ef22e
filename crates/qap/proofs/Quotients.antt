-- The quotient of a circuit and an assignment: it exists exactly where every row holds, and is the only one.
-- RULES 4.
use mathlib.Core.Path.{◌≡◌, refl}
use mathlib.Core.List.{List}
use Prim.Native.Nat.{ℕ, zero, suc, ◌+◌, ◌*◌, ◌%◌, ◌<◌, ◌≤◌}
use native.Mathlib.Omega.{arith}
use lib.ListN.{length}
use lib.Dec.{lit<}
use Rattle.algebra.specs.Polynomial.{Words, value}
use Rattle.algebra.specs.Points.{Through}
use Rattle.algebra.specs.Blinding.{Holds}
use Rattle.algebra.proofs.Congruence.{≈_sym, ≈_trans, ≈-product}
use Rattle.algebra.proofs.Blinding.{blinded_exists, blinded-holds, blinded_unique}
use Rattle.circuit.specs.Circuit.{listed_rows, publics, columns}
use Rattle.rows.specs.Rows.{RowHolds, RowsHold, whole_sum}
use Rattle.circuit.specs.WellFormed.{Formed}
use Rattle.rows.proofs.Holds.{every-row}
use Rattle.qap.specs.Setting.{Setting, Sound, points_of}
use Rattle.qap.specs.Polynomials.{Whole, target_of, quotient_length, blinder_a, blinder_b, blinder_c, IsQuotient}
use Rattle.qap.specs.Answers.{IsAnswers, CandidateDivides}
use Rattle.qap.specs.declared.Blinders.{Blinders}
use Rattle.qap.specs.declared.FourAnswers.{FourAnswers}
use Rattle.qap.proofs.Settings.{prime, p_positive, distinct-points, listed-points}
use Rattle.qap.proofs.Parts.{part-through, part_exists, part_unique}

module _ {S : Setting} (sound : Sound S) {c : List ℕ} (formed : Formed S.p c) (a : List ℕ) where
  module _ {A B C : List ℕ} (whole_a : Whole S c a 0 A) (whole_b : Whole S c a 1 B) (whole_c : Whole S c a 2 C) where
    at_a : Through S.p (points_of S c) (λ i. whole_sum c a 0 (suc i)) A
    at_a = part-through whole_a

    at_b : Through S.p (points_of S c) (λ i. whole_sum c a 1 (suc i)) B
    at_b = part-through whole_b

    at_c : Through S.p (points_of S c) (λ i. whole_sum c a 2 (suc i)) C
    at_c = part-through whole_c

    -- A B − C is 0 at all points exactly where every row holds
    pub rows_to_points : RowsHold S.p c a → Holds S.p (points_of S c) A B C
    rows_to_points h = record {
      at_each = λ i l.
          ≈_trans (≈-product (at_a.takes i l) (at_b.takes i l))
          (≈_trans (every-row formed a h i).equal (≈_sym (at_c.takes i l)));
    }

    pub points_to_rows : Holds S.p (points_of S c) A B C → RowsHold S.p c a
    points_to_rows h = record { at_row = row }
      where
        row : (i : ℕ) → 1 ≤ i → i ≤ listed_rows c → RowHolds S.p c a i
        row zero low high = absurd (omega arith)
        row (suc i) low high =
            let l : i < length (points_of S c) = omega (arith, listed-points sound formed) in
            record { equal = ≈_trans (≈-product (≈_sym (at_a.takes i l)) (≈_sym (at_b.takes i l))) (≈_trans (h.at_each i l) (at_c.takes i l)) }

  pub quotient-holds : {d : Blinders} {h : List ℕ} → IsQuotient S c a d h → RowsHold S.p c a
  quotient-holds {d} q =
      points_to_rows q.whole_a q.whole_b q.whole_c
      (blinded-holds (p_positive sound) (points_of S c) q.A q.B q.C (blinder_a d) (blinder_b d) (blinder_c d) q.quotient.divides)

  module _ (d : Blinders) where
    pub quotient_exists : RowsHold S.p c a → (h : List ℕ) × IsQuotient S c a d h
    quotient_exists hold =
        let (A, whole_a) = part_exists sound formed a 0 0 (columns c) in
        let (B, whole_b) = part_exists sound formed a 1 0 (columns c) in
        let (C, whole_c) = part_exists sound formed a 2 0 (columns c) in
        let (h, quotient) = blinded_exists (prime sound) (points_of S c) A B C (distinct-points sound formed) whole_a.size whole_b.size whole_c.size
        (blinder_a d) (blinder_b d) (blinder_c d) (lit< tt) refl refl (rows_to_points whole_a whole_b whole_c hold) in (
          h,
          record {
            A = A;
            B = B;
            C = C;
            whole_a = whole_a;
            whole_b = whole_b;
            whole_c = whole_c;
            quotient = quotient;
          },
        )

    -- the division check's equality is the quotient's, for a list of the right length
    pub candidate-quotient : {h : List ℕ} → length h ≡ quotient_length S c → Words S.p h → CandidateDivides S c a d h → IsQuotient S c a d h
    candidate-quotient size words k = record {
      A = k.A;
      B = k.B;
      C = k.C;
      whole_a = k.whole_a;
      whole_b = k.whole_b;
      whole_c = k.whole_c;
      quotient = record { size = size; words = words; divides = k.divides };
    }

    pub quotient-candidate : {h : List ℕ} → IsQuotient S c a d h → CandidateDivides S c a d h
    quotient-candidate q = record {
      A = q.A;
      B = q.B;
      C = q.C;
      whole_a = q.whole_a;
      whole_b = q.whole_b;
      whole_c = q.whole_c;
      divides = q.quotient.divides;
    }

    pub quotient_unique : {g h : List ℕ} → IsQuotient S c a d g → IsQuotient S c a d h → g ≡ h
    quotient_unique {g} {h} s t =
        let same_A = part_unique sound formed t.whole_a s.whole_a in
        let same-B = part_unique sound formed t.whole_b s.whole_b in
        let same-C = part_unique sound formed t.whole_c s.whole_c in
        blinded_unique (p_positive sound) (points_of S c) s.A s.B s.C (blinder_a d) (blinder_b d) (blinder_c d)
        s.quotient (rw (same_A, same-B, same-C) at t.quotient)

  -- and so do the answers, under any blinders
  pub answers_exist : (d : Blinders) (s : ℕ) → RowsHold S.p c a → (r : FourAnswers) × IsAnswers S c a d s r
  answers_exist d s hold =
      let (A, private_a) = part_exists sound formed a 0 (publics c) (columns c) in
      let (B, private_b) = part_exists sound formed a 1 (publics c) (columns c) in
      let (C, private_c) = part_exists sound formed a 2 (publics c) (columns c) in
      let (H, quotient) = quotient_exists d hold in
      let z = value (target_of S c) s in (
        record {
          first = (value A s + value (blinder_a d) s * z) % S.p;
          second = (value B s + value (blinder_b d) s * z) % S.p;
          third = (value C s + value (blinder_c d) s * z) % S.p;
          fourth = value H s % S.p;
        },
        record {
          A = A;
          B = B;
          C = C;
          H = H;
          private_a = private_a;
          private_b = private_b;
          private_c = private_c;
          quotient_h = quotient;
          first = refl;
          second = refl;
          third = refl;
          fourth = refl;
        },
      )
