-- The law of division in place: dividend = remainder + (low + X^m) · quotient, whatever is divided; so by the target of any points
-- the remainder is 0 exactly where the dividend is 0 at all of them, and then the other words are the quotient.
-- RULES 4.
use mathlib.Core.Path.{◌≡◌, refl, ap}
use mathlib.Core.List.{List, [], ◌∷◌, ◌++◌}
use Prim.Native.Nat.{ℕ, zero, suc, ◌+◌, ◌*◌, ◌-◌, ◌%◌, ◌<◌, ◌≤◌}
use native.Mathlib.Nat.{add-zero}
use native.Mathlib.Omega.{arith}
use lib.ListN.{length, take, drop, get_or, length-drop, drop_of_length-le}
use lib.Seq.{take-suc, drop-cons, take_all, length-take-le}
use Rattle.algebra.specs.Congruence.{◌≈⟨◌⟩◌, negative}
use Rattle.algebra.specs.Prime.{Prime}
use Rattle.algebra.specs.Polynomial.{Words, value, sum, product, ◌≋⟨◌⟩◌}
use Rattle.algebra.specs.Points.{Distinct, Vanishes, target, Quotient}
use Rattle.algebra.proofs.Congruence.{≈-eq, ≈_sym, ≈_trans, ≈-plus, ≈-times, ≈-negative, by}
use Rattle.algebra.proofs.Inverse.{positive}
use Rattle.algebra.proofs.Polynomial.{value-sum, value-product}
use Rattle.algebra.proofs.Pairing.{pairing, pairings, by_pairings, pairing-sum, pairing-multiple}
use Rattle.algebra.proofs.Products.{product_swap}
use Rattle.algebra.proofs.Same.{≋_trans, ≋-value}
use Rattle.algebra.proofs.Roots.{roots}
use Rattle.algebra.proofs.Target.{length-target, target-leading, target-zero}
use Rattle.poly.specs.AddScaled.{scaled}
use Rattle.poly.specs.Division.{divide_once, division, low_target, remainder, quotient}
use Rattle.poly.proofs.Words.{words-cons, words-first, words-rest, words_take, words-drop, pairing-append}
use Rattle.poly.proofs.ScaledLaws.{length-scaled, words-scaled, pairing-scaled}

-- what is lent from m on is not touched by m words, and the first m words get the multiple
drop-scaled : (p k : ℕ) (src dst : List ℕ) → drop (length src) (scaled p k src dst) ≡ drop (length src) dst
unfolding scaled
drop-scaled p k [] dst = refl
drop-scaled p k (b ∷ src) [] = refl
drop-scaled p k (b ∷ src) (a ∷ dst) = drop-scaled p k src dst

take-scaled : (p k : ℕ) (src dst : List ℕ) → take (length src) (scaled p k src dst) ≡ scaled p k src (take (length src) dst)
unfolding scaled
take-scaled p k [] dst = refl
take-scaled p k (b ∷ src) [] = refl
take-scaled p k (b ∷ src) (a ∷ dst) = ap (λ (r : List ℕ). (a + k * b) % p ∷ r) (take-scaled p k src dst)

pub length-division : (p : ℕ) (low : List ℕ) (n : ℕ) (f : List ℕ) → length (division p low n f) ≡ length f
unfolding division divide_once
length-division p low zero f = refl
length-division p low (suc n) [] = refl
length-division p low (suc n) (a ∷ f) = rw length-scaled (ap suc (length-division p low n f))

pub words-division : {p : ℕ} → 0 < p → (low : List ℕ) (n : ℕ) (f : List ℕ) → Words p f → Words p (division p low n f)
unfolding division divide_once
words-division h low zero f w = w
words-division h low (suc n) [] w = w
words-division {p} h low (suc n) (a ∷ f) w =
    let g = a ∷ division p low n f in
    words-scaled h (negative p (get_or g (length low) 0)) low g (words-cons (words-first w) (words-division h low n f (words-rest w)))

-- the divisor: low, and the leading 1
abbrev monic : List ℕ → List ℕ
monic low = low ++ 1 ∷ []

-- one quotient word q over the words h: q times the divisor, and h one place higher
quotient-word : (low h : List ℕ) (q : ℕ) (φ : ℕ → ℕ) →
    pairing (product (monic low) (q ∷ h)) φ ≡ q * pairing low φ + q * φ (length low) + pairing (product (monic low) h) (λ k. φ (suc k))
unfolding product pairing
quotient-word low h q φ =
    rw (product_swap (monic low) (q ∷ h) φ, product_swap (monic low) h (λ k. φ (suc k)))
    (simp (pairing-sum, pairing-multiple, pairing-append, add-zero) (omega arith))

-- the m + 1 words from which a quotient word comes: the m below it, and itself
below_word : (s : List ℕ) (m : ℕ) (φ : ℕ → ℕ) → m < length s → pairing (take (suc m) s) φ ≡ pairing (take m s) φ + get_or s m 0 * φ m
unfolding pairing
below_word s m φ h =
    rw (take-suc s m 0 h, pairing-append, length-take-le m s (omega arith), add-zero m) (omega arith)

module _ {p : ℕ} (pos : 0 < p) (low : List ℕ) where
  pairing-division : (n : ℕ) (f : List ℕ) (φ : ℕ → ℕ) → length f ≡ n + length low →
      pairing f φ ≈⟨ p ⟩ pairing (take (length low) (division p low n f)) φ + pairing (product (monic low) (drop (length low) (division p low n f))) φ
  unfolding division divide_once pairing product
  pairing-division zero f φ size =
      rw (take_all (length low) f (omega arith), drop_of_length-le f {i = length low} (omega arith))
      (≈-eq p (omega (arith, product_swap (monic low) [] φ)))
  pairing-division (suc n) [] φ size = absurd (omega arith)
  pairing-division (suc n) (a ∷ f) φ size =
      let m = length low in
      let d = division p low n f in
      let s = a ∷ d in
      let q = get_or s m 0 in
      let d-size : length d ≡ length f = length-division p low n f in
      let above : m < length s = omega arith in
      let part : length (take m s) ≡ m = length-take-le m s (omega arith) in
      rw (take-scaled p (negative p q) low s, drop-scaled p (negative p q) low s, drop-cons s m 0 above, quotient-word low (drop m d) q φ)
      (by
      (≈-plus (pairing-division n f (λ k. φ (suc k)) (omega arith))
      (≈-plus (≈_sym (pairing-scaled p (negative p q) low (take m s) φ (omega arith))) (≈_sym (≈-negative pos (q * pairing low φ)))))
      (omega (arith, below_word s m φ above)))

  -- whatever is divided: dividend = remainder + divisor · quotient
  pub division-sum : (n : ℕ) (f : List ℕ) → length f ≡ n + length low →
      f ≋⟨ p ⟩ sum (take (length low) (division p low n f)) (product (monic low) (drop (length low) (division p low n f)))
  division-sum n f size = by_pairings (λ φ. rw pairing-sum (pairing-division n f φ size))

module _ {p : ℕ} (above : 1 < p) (xs : List ℕ) where
  pub length_low : length (low_target p xs) ≡ length xs
  length_low = length-take-le (length xs) (target p xs) (omega (arith, length-target p xs))

  pub monic_low : low_target p xs ++ 1 ∷ [] ≡ target p xs
  monic_low =
      let size : length (target p xs) ≡ suc (length xs) = length-target p xs in
      let whole : take (suc (length xs)) (target p xs) ≡ target p xs = take_all (suc (length xs)) (target p xs) (omega arith) in
      rw (take-suc (target p xs) (length xs) 0 (omega arith), target-leading above xs) at whole

module _ {p : ℕ} (prime : Prime p) (xs f : List ℕ) (long : length xs ≤ length f) where
  -- f = remainder + Z · quotient, with as many remainder words as points
  pub division_by_target : f ≋⟨ p ⟩ sum (remainder p xs f) (product (target p xs) (quotient p xs f))
  unfolding remainder quotient
  division_by_target =
      rw (length_low prime.above_one xs, monic_low prime.above_one xs) at
      (division-sum (positive prime) (low_target p xs) (length f - length xs) f (omega (arith, length_low prime.above_one xs)))

  pub length-remainder : length (remainder p xs f) ≡ length xs
  unfolding remainder
  length-remainder =
      let r = division p (low_target p xs) (length f - length xs) f in
      length-take-le (length xs) r (omega (arith, length-division p (low_target p xs) (length f - length xs) f))

  pub length-quotient : length (quotient p xs f) ≡ length f - length xs
  unfolding quotient
  length-quotient = rw (length-drop, length-division) refl

  pub words-remainder : Words p f → Words p (remainder p xs f)
  unfolding remainder
  words-remainder w = words_take (length xs) _ (words-division (positive prime) (low_target p xs) (length f - length xs) f w)

  pub words-quotient : Words p f → Words p (quotient p xs f)
  unfolding quotient
  words-quotient w = words-drop (length xs) _ (words-division (positive prime) (low_target p xs) (length f - length xs) f w)

  -- at the points f and the remainder have the same values
  remainder-values : (i : ℕ) → i < length xs → value (remainder p xs f) (get_or xs i 0) ≈⟨ p ⟩ value f (get_or xs i 0)
  remainder-values i h =
      let x = get_or xs i 0 in
      let z = value (target p xs) x in
      let q = value (quotient p xs f) x in
      let split : value f x ≈⟨ p ⟩ value (remainder p xs f) x + z * q =
      ≈_trans (≋-value division_by_target x) (≈-eq p (simp (value-sum, value-product))) in
      by (≈-plus (≈_sym split) (≈-times q (≈_sym ((target-zero (positive prime) xs).zero_at i h)))) (omega arith)

  -- the remainder is 0 exactly where f is 0 at all points
  pub remainder-zero : Distinct p xs → Vanishes p f xs → remainder p xs f ≋⟨ p ⟩ []
  remainder-zero distinct v =
      roots prime xs (remainder p xs f) distinct (omega (arith, length-remainder))
      (record { zero_at = λ i h. ≈_trans (remainder-values i h) (v.zero_at i h) })

  pub remainder-only-zero : remainder p xs f ≋⟨ p ⟩ [] → Vanishes p f xs
  unfolding value
  remainder-only-zero zero-words =
      record { zero_at = λ i h. ≈_trans (≈_sym (remainder-values i h)) (≋-value zero-words (get_or xs i 0)) }

  -- and then the other words are the quotient
  pub quotient-exact : Words p f → Distinct p xs → Vanishes p f xs → Quotient p xs f (quotient p xs f)
  unfolding pairing
  quotient-exact w distinct v = record {
    size = length-quotient;
    words = words-quotient w;
    exact = ≋_trans division_by_target (by_pairings (λ φ.
        rw pairing-sum (by (pairings (remainder p xs f) [] (remainder-zero distinct v) φ) (omega arith))));
  }
