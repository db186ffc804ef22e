-- The law of interpolation in place: y, then a list g through the slopes from y at the points xs, become y + (X − x) · g, which goes
-- through y at x and through the values at xs. At consecutive points the slopes are the differences, by the table of inverses.
-- RULES 4.
use mathlib.Core.Path.{◌≡◌, refl, ◌∙◌, ap}
use mathlib.Core.List.{List, [], ◌∷◌}
use Prim.Native.Nat.{ℕ, zero, suc, ◌+◌, ◌*◌, ◌-◌, ◌%◌, ◌<◌, ◌≤◌}
use native.Mathlib.Nat.{mod-lt}
use native.Mathlib.Omega.{arith}
use lib.ListN.{length, get_or}
use Rattle.algebra.specs.Congruence.{◌≈⟨◌⟩◌, negative, Inverse}
use Rattle.algebra.specs.Prime.{Prime}
use Rattle.algebra.specs.Polynomial.{Words, value}
use Rattle.algebra.specs.Points.{consecutive, Through}
use Rattle.algebra.proofs.Congruence.{≈_trans, ≈-plus, ≈-times, ≈-negative, ≈-reduced, ≈-whole, by}
use Rattle.algebra.proofs.Inverse.{positive}
use Rattle.algebra.proofs.Interpolation.{interpolation_unique}
use Rattle.poly.specs.Factor.{times_factor}
use Rattle.poly.specs.Interpolation.{differences, newton, powers, interpolated}
use Rattle.poly.proofs.Words.{words-cons, words-first, words-rest}
use Rattle.poly.proofs.FactorLaws.{length-factor, words-factor, factor-value}
use Rattle.algebra.proofs.Consecutive.{length-consecutive, consecutive_at, distinct-consecutive}

pub length-differences : (p : ℕ) (t : List ℕ) (y : ℕ) (v : List ℕ) → length (differences p t y v) ≡ length v
unfolding differences
length-differences p t y [] = refl
length-differences p [] y (a ∷ v) = refl
length-differences p (d ∷ t) y (a ∷ v) = ap suc (length-differences p t y v)

pub words-differences : {p : ℕ} → 0 < p → (t : List ℕ) (y : ℕ) (v : List ℕ) → Words p v → Words p (differences p t y v)
unfolding differences
words-differences h t y [] w = w
words-differences h [] y (a ∷ v) w = w
words-differences {p} h (d ∷ t) y (a ∷ v) w = words-cons (mod-lt _ h) (words-differences h t y v (words-rest w))

difference-word : (p : ℕ) (t : List ℕ) (y : ℕ) (v : List ℕ) (i : ℕ) → i < length v → i < length t →
    get_or (differences p t y v) i 0 ≡ (get_or v i 0 + (p - y)) * get_or t i 0 % p
unfolding differences
difference-word p t y [] i hv ht = absurd (omega arith)
difference-word p [] y (a ∷ v) i hv ht = absurd (omega arith)
difference-word p (d ∷ t) y (a ∷ v) zero hv ht = refl
difference-word p (d ∷ t) y (a ∷ v) (suc i) hv ht = difference-word p t y v i (omega arith) (omega arith)

-- one point more, before any list of points: g takes at each point the slope from the value at x
pub one-point-more : {p : ℕ} → 0 < p → (x : ℕ) (xs : List ℕ) {y slope : ℕ → ℕ} {g : List ℕ} → y 0 < p → Through p xs slope g →
    ((i : ℕ) → i < length xs → y 0 + (negative p x + get_or xs i 0) * slope i ≈⟨ p ⟩ y (suc i)) →
    Through p (x ∷ xs) y (times_factor p x (y 0 ∷ g))
one-point-more {p} pos x xs {y} {slope} {g} word t slopes = record {
  size = rw length-factor (ap suc t.size);
  words = words-factor pos x (y 0 ∷ g) (words-cons word t.words);
  takes = at;
}
  where
    at : (i : ℕ) → i < suc (length xs) → value (times_factor p x (y 0 ∷ g)) (get_or (x ∷ xs) i 0) ≈⟨ p ⟩ y i
    at zero l = by (≈-plus (factor-value p x (y 0) g x) (≈-times (value g x) (≈-negative pos x))) (omega arith)
    at (suc i) l =
        let s = get_or xs i 0 in
        ≈_trans (factor-value p x (y 0) g s)
        (by (≈-plus (≈-times (negative p x + s) (t.takes i (omega arith))) (slopes i (omega arith))) (omega arith))

-- at x + 1 + i the slope is the difference by the inverse of 1 + i
slope : {p y : ℕ} → 0 < p → y < p → (x i u d : ℕ) {t : ℕ} → Inverse p (suc i) t → d ≈⟨ p ⟩ (u + (p - y)) * t →
    y + (negative p x + (suc x + i)) * d ≈⟨ p ⟩ u
slope {p} {y} pos word x i u d {t} inverse is =
    let e = p - y in
    let whole : y + e ≡ p = omega arith in
    by
    (≈-plus (≈-plus (≈-times d (≈-negative pos x)) (≈-times (suc i) is)) (≈-plus (≈-times (u + e) inverse.leaves_one) (≈-whole p u 1)))
    (omega arith)

module _ {p : ℕ} (prime : Prime p) (t : List ℕ) (inverses : (i : ℕ) → i < length t → Inverse p (suc i) (get_or t i 0)) where
  through : (x m : ℕ) (v : List ℕ) → length v ≡ m → m ≤ suc (length t) → Words p v →
      Through p (consecutive x m) (λ i. get_or v i 0) (powers p (consecutive x m) (newton p t m v))
  unfolding consecutive newton powers
  through x zero [] size enough w = record { size = refl; words = w; takes = λ i h. absurd (omega arith) }
  through x zero (y ∷ v) size enough w = absurd (omega arith)
  through x (suc m) [] size enough w = absurd (omega arith)
  through x (suc m) (y ∷ v) size enough w =
      let d = differences p t y v in
      let rest = through (suc x) m d (length-differences p t y v ∙ omega arith) (omega arith)
      (words-differences (positive prime) t y v (words-rest w)) in
      one-point-more (positive prime) x (consecutive (suc x) m) {y = λ i. get_or (y ∷ v) i 0} (words-first w) rest (λ i h.
      let below : i < m = omega (arith, length-consecutive (suc x) m) in
      rw (consecutive_at (suc x) m i below)
      (slope (positive prime) (words-first w) x i (get_or v i 0) (get_or d i 0) (inverses i (omega arith))
      (rw (difference-word p t y v i (omega arith) (omega arith)) (≈-reduced p _))))

  -- the list through the values at consecutive points, for as many points as the table has inverses, and one
  pub interpolated-through : (x : ℕ) (v : List ℕ) → length v ≤ suc (length t) → Words p v →
      Through p (consecutive x (length v)) (λ i. get_or v i 0) (interpolated p t x v)
  unfolding interpolated
  interpolated-through x v enough w = through x (length v) v refl enough w

  pub interpolated_unique : (x : ℕ) (v : List ℕ) → length v ≤ suc (length t) → length v ≤ p → Words p v → {g : List ℕ} →
      Through p (consecutive x (length v)) (λ i. get_or v i 0) g → interpolated p t x v ≡ g
  interpolated_unique x v enough few w s =
      interpolation_unique prime (distinct-consecutive x (length v) few) (interpolated-through x v enough w) s
