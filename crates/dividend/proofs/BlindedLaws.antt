-- The values' list with a word 0 behind it, plus d times the target, is A' for the A through the values.
-- RULES 4.
use mathlib.Core.Path.{◌≡◌, ◌∙◌, ap}
use mathlib.Core.List.{List, [], ◌∷◌, ◌++◌}
use Prim.Native.Nat.{ℕ, suc, ◌+◌, ◌<◌, ◌≤◌}
use native.Mathlib.Omega.{arith}
use lib.ListN.{length, get_or, take, drop, set, length-set, length-append, drop_of_length-le}
use lib.Seq.{drop-cons, get_or-set_same, get_or-take, take-set-le, length-take-le}
use Rattle.algebra.specs.Polynomial.{Words}
use Rattle.algebra.specs.Points.{Through, row_points, target}
use Rattle.algebra.proofs.Congruence.{≈_trans, ≈-eq}
use Rattle.algebra.proofs.Pairing.{pairing, by_pairings, pairing-sum}
use Rattle.algebra.proofs.Products.{product-one}
use Rattle.algebra.proofs.Consecutive.{length-row_points}
use Rattle.algebra.proofs.Target.{length-target}
use Rattle.algebra.specs.Prime.{FieldPrime}
use Rattle.algebra.proofs.Inverse.{positive}
use Rattle.field.specs.Field.{InverseTable}
use Rattle.poly.specs.AddScaled.{scaled}
use Rattle.poly.specs.Interpolation.{interpolated}
use Rattle.poly.proofs.Words.{words-cons, words_append, pairing-append}
use Rattle.poly.proofs.ScaledLaws.{length-scaled, words-scaled, pairing-scaled}
use Rattle.poly.proofs.InterpolationLaws.{interpolated-through}
use Rattle.dividend.specs.Blinded.{BlindedThrough}

module _ (m : ℕ) (out : List ℕ) (size : length out ≡ m + 1) where
  -- the last word set to 0 leaves the values
  pub values-kept : take m (set out m 0) ≡ take m out
  values-kept = take-set-le m out m 0 (omega arith)

  pub last-zero : drop m (set out m 0) ≡ 0 ∷ []
  last-zero =
      drop-cons (set out m 0) m 0 (omega (arith, length-set out m 0)) ∙
      rw (get_or-set_same out m 0 0 (omega arith), drop_of_length-le (set out m 0) {i = suc m} (omega (arith, length-set out m 0)))

module _ {p : ℕ} (field : FieldPrime p) (m : ℕ) (out : List ℕ) (size : length out ≡ m + 1) where
  -- the list through the values
  values-through : (few : m ≤ 256) → Words p (take m out) → (t : List ℕ) → InverseTable p t →
      Through p (row_points m) (λ i. get_or out i 0) (interpolated p t 1 (take m out))
  values-through few words t table =
      let n : length (take m out) ≡ m = length-take-le m out (omega arith) in
      let found = interpolated-through field.prime t (λ i l. table.inverse i (omega (arith, table.entries))) 1 (take m out)
      (omega (arith, table.entries)) words in
      record {
        size = rw n at found.size;
        words = found.words;
        takes = λ i l.
            let below : i < m = omega (arith, length-row_points m) in
            rw (get_or-take m out i 0 below) at (rw n at (found.takes i (omega (arith, length-row_points (length (take m out))))));
      }

  pub blinded_law : (few : m ≤ 256) → Words p (take m out) → (t : List ℕ) → InverseTable p t → (d : ℕ) (z new : List ℕ) → z ≡ target p (row_points m) →
      new ≡ scaled p d z (interpolated p t 1 (take m out) ++ 0 ∷ []) → BlindedThrough p (row_points m) (λ i. get_or out i 0) (d ∷ []) new
  unfolding pairing
  blinded_law few words t table d z new target-z e =
      let f = interpolated p t 1 (take m out) in
      let through = values-through few words t table in
      let points = length-row_points m in
      let room : length (f ++ 0 ∷ []) ≡ suc m = rw length-append (omega (arith, through.size)) in
      let fits : length z ≤ length (f ++ 0 ∷ []) = omega (arith, ap length target-z, length-target p (row_points m)) in
      record {
        plain = f;
        through = through;
        size = rw (e, length-scaled) (omega arith);
        words = rw e (words-scaled (positive field.prime) d z (f ++ 0 ∷ []) (words_append f (0 ∷ []) through.words (words-cons (positive field.prime) none)));
        same = by_pairings (λ φ. rw (e, pairing-sum, product-one, ← target-z)
            (≈_trans (pairing-scaled p d z (f ++ 0 ∷ []) φ fits) (≈-eq p (rw pairing-append (omega arith)))));
      }
    where
      none : Words p []
      none = record { below = λ i l. absurd (omega arith) }
