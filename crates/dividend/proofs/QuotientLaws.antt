-- From the words of the dividend to the quotient of the definition, and to what the division check compares.
-- RULES 4.
use mathlib.Core.Path.{◌≡◌}
use mathlib.Core.List.{List}
use Prim.Native.Nat.{ℕ, suc, ◌<◌, ◌≤◌}
use native.Mathlib.Omega.{arith}
use lib.ListN.{length, get_or}
use Rattle.algebra.specs.Congruence.{◌≈⟨◌⟩◌}
use Rattle.algebra.specs.Polynomial.{value, product, reduced}
use Rattle.algebra.specs.Blinding.{Holds, Divides}
use Rattle.algebra.proofs.Congruence.{≈_sym, ≈_trans, ≈-plus, ≈-times, ≈-product, by}
use Rattle.algebra.proofs.Blinders.{blinded-value}
use Rattle.algebra.proofs.Same.{≋_sym, ≋-value}
use Rattle.algebra.proofs.Target.{length-target, target-zero}
use Rattle.algebra.proofs.Blinding.{divides-alike}
use Rattle.algebra.specs.Prime.{FieldPrime}
use Rattle.algebra.proofs.Inverse.{positive}
use Rattle.poly.specs.Product.{padded}
use Rattle.circuit.specs.Circuit.{rows, columns}
use Rattle.circuit.specs.WellFormed.{Formed}
use Rattle.circuit.proofs.Rows.{row_range}
use Rattle.rows.proofs.Holds.{every-row}
use Rattle.qap.proofs.Standard.{row-sound, count-points}
use Rattle.rows.specs.Rows.{RowsHold, whole_sum}
use Rattle.qap.specs.declared.Blinders.{Blinders}
use Rattle.qap.specs.Polynomials.{Whole, target_of, blinder_a, blinder_b, blinder_c, IsQuotient}
use Rattle.qap.specs.Answers.{CandidateDivides}
use Rattle.qap.proofs.Parts.{through-part, part_unique}
use Rattle.qap.proofs.Quotients.{candidate-quotient}
use Rattle.qap.specs.Setting.{row_setting, points_of}
use Rattle.dividend.specs.Dividend.{dividend_of, quotient_of}
use Rattle.dividend.specs.Blinded.{BlindedThrough}
use Rattle.dividend.proofs.DividendLaws.{dividend-quotient, dividend-quotient_size, dividend-quotient-words, words-divide, divide-words}

module _ {p : ℕ} (field : FieldPrime p) where
  -- the same list goes through congruent values
  pub blinded-alike : {xs : List ℕ} {y z : ℕ → ℕ} {d g : List ℕ} → ((i : ℕ) → i < length xs → y i ≈⟨ p ⟩ z i) → BlindedThrough p xs y d g →
      BlindedThrough p xs z d g
  blinded-alike same b = record {
    plain = b.plain;
    through = record {
      size = b.through.size;
      words = b.through.words;
      takes = λ i l. ≈_trans (b.through.takes i l) (same i l);
    };
    size = b.size;
    words = b.words;
    same = b.same;
  }

  -- at a point of the target a multiple of it does not count
  at_points : {xs : List ℕ} {y : ℕ → ℕ} {d g : List ℕ} → BlindedThrough p xs y d g → (i : ℕ) → i < length xs → value g (get_or xs i 0) ≈⟨ p ⟩ y i
  at_points {xs} {y} {d} {g} b i l =
      let x = get_or xs i 0 in
      let zero = (target-zero (positive field.prime) xs).zero_at i l in
      ≈_trans (≋-value b.same x)
      (rw (blinded-value p xs b.plain d x) (by (≈-plus (b.through.takes i l) (≈-times (value d x) zero)) (omega arith)))

  module _ {c : List ℕ} (formed : Formed p c) (a : List ℕ) (d : Blinders) {f g k : List ℕ}
      (bf : BlindedThrough p (points_of (row_setting p) c) (λ i. whole_sum c a 0 (suc i)) (blinder_a d) f)
      (bg : BlindedThrough p (points_of (row_setting p) c) (λ i. whole_sum c a 1 (suc i)) (blinder_b d) g)
      (bk : BlindedThrough p (points_of (row_setting p) c) (λ i. whole_sum c a 2 (suc i)) (blinder_c d) k) where
    points-count : length (points_of (row_setting p) c) ≡ rows c
    points-count = count-points p c

    few : rows c ≤ 256
    few = (row_range formed).at_most

    size_f : length f ≡ suc (rows c)
    size_f = omega (arith, bf.size, points-count)

    size_g : length g ≡ suc (rows c)
    size_g = omega (arith, bg.size, points-count)

    size_k : length k ≡ suc (rows c)
    size_k = omega (arith, bk.size, points-count)

    whole_a : Whole (row_setting p) c a 0 bf.plain
    whole_a = through-part (row-sound field) formed a 0 0 (columns c) bf.through

    whole_b : Whole (row_setting p) c a 1 bg.plain
    whole_b = through-part (row-sound field) formed a 1 0 (columns c) bg.through

    whole_c : Whole (row_setting p) c a 2 bk.plain
    whole_c = through-part (row-sound field) formed a 2 0 (columns c) bk.through

    -- what divides A'B' − C' is a candidate that the division check accepts
    candidate : {h : List ℕ} → Divides p (points_of (row_setting p) c) f g k h → CandidateDivides (row_setting p) c a d h
    candidate divides = record {
      A = bf.plain;
      B = bg.plain;
      C = bk.plain;
      whole_a = whole_a;
      whole_b = whole_b;
      whole_c = whole_c;
      divides = divides-alike bf.same bg.same bk.same divides;
    }

    pub quotient_law : RowsHold p c a → IsQuotient (row_setting p) c a d (quotient_of p (rows c) (dividend_of p f g k))
    quotient_law hold =
        let holds : Holds p (points_of (row_setting p) c) f g k = record {
          at_each = λ i l.
              ≈_trans (≈-product (at_points bf i l) (at_points bg i l))
              (≈_trans (every-row formed a hold i).equal (≈_sym (at_points bk i l)));
        } in
        candidate-quotient (row-sound field) formed a d (omega (arith, dividend-quotient_size field (rows c) few f g k size_f size_g size_k, points-count))
        (dividend-quotient-words field (rows c) few f g k size_f size_g size_k)
        (candidate (dividend-quotient field (rows c) few f g k size_f size_g size_k holds))

    module _ (h : List ℕ) (size-h : length h ≡ suc (rows c)) where
      size_z : length (target_of (row_setting p) c) ≡ suc (rows c)
      size_z = omega (arith, length-target p (points_of (row_setting p) c), points-count)

      -- a candidate divides exactly where the words of Z times it are the dividend's
      pub candidate-words : CandidateDivides (row_setting p) c a d h → dividend_of p f g k ≡ padded 513 (reduced p (product (target_of (row_setting p) c) h))
      candidate-words q =
          let same_A = part_unique (row-sound field) formed q.whole_a whole_a in
          let same-B = part_unique (row-sound field) formed q.whole_b whole_b in
          let same-C = part_unique (row-sound field) formed q.whole_c whole_c in
          let divides = rw (same_A, same-B, same-C) at q.divides in
          divide-words field (rows c) few f g k size_f size_g size_k (target_of (row_setting p) c) h size_z size-h
          (divides-alike (≋_sym bf.same) (≋_sym bg.same) (≋_sym bk.same) divides).equal

      pub words-candidate : dividend_of p f g k ≡ padded 513 (reduced p (product (target_of (row_setting p) c) h)) → CandidateDivides (row_setting p) c a d h
      words-candidate e = candidate (record { equal = words-divide field (rows c) few f g k size_f size_g size_k (target_of (row_setting p) c) h size_z size-h e })
