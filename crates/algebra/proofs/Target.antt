-- The target: one word more than there are points, the last word 1, and 0 exactly at the points. RULES 4.
use mathlib.Core.Path.{◌≡◌, refl, ◌∙◌, ap}
use mathlib.Core.Logic.{⊎_elim}
use mathlib.Core.List.{List, [], ◌∷◌}
use Prim.Native.Nat.{ℕ, zero, suc, ◌+◌, ◌*◌, ◌%◌, ◌<◌}
use native.Mathlib.Nat.{mod-eq_of_lt}
use native.Mathlib.Omega.{arith}
use lib.ListN.{length, get_or, get_or-eq_default}
use Rattle.algebra.specs.Congruence.{◌≈⟨◌⟩◌, negative}
use Rattle.algebra.specs.Prime.{Prime}
use Rattle.algebra.specs.Polynomial.{Each, Words, value, product}
use Rattle.algebra.specs.Points.{Vanishes, factor, target}
use Rattle.algebra.proofs.Congruence.{≈_sym, ≈_trans, ≈-plus, ≈-times, ≈-negative, ≈-eq, ≈-words, by}
use Rattle.algebra.proofs.Inverse.{positive, no_zero_divisors}
use Rattle.algebra.proofs.Polynomial.{length-reduced, length-product, coefficient-reduced, coefficient-factor, value-product}
use Rattle.algebra.proofs.Same.{≋-value, ≋-reduced, reduced-words}

pub length-target : (p : ℕ) (xs : List ℕ) → length (target p xs) ≡ suc (length xs)
unfolding target
length-target p [] = refl
length-target p (x ∷ xs) =
    rw length-reduced
    (omega
    (arith, length-target p xs, length-product (factor p x) (target p xs) (omega arith) (omega (arith, length-target p xs))))

single : {p : ℕ} → 1 < p → Each (λ a. a < p) (1 ∷ [])
single above zero h = above
single above (suc i) h = absurd (omega arith)

pub target-words : {p : ℕ} → 1 < p → (xs : List ℕ) → Words p (target p xs)
unfolding target
target-words above [] = record { below = single above }
target-words {p} above (x ∷ xs) = reduced-words (omega arith) (product (factor p x) (target p xs))

pub target-leading : {p : ℕ} → 1 < p → (xs : List ℕ) → get_or (target p xs) (length xs) 0 ≡ 1
unfolding target
target-leading above [] = refl
target-leading {p} above (x ∷ xs) =
    rw (
      coefficient-reduced,
      coefficient-factor,
      target-leading above xs,
      get_or-eq_default (target p xs) 0 {n = suc (length xs)} (omega (arith, length-target p xs)),
    )
    (ap (λ (n : ℕ). n % p) (omega arith) ∙ mod-eq_of_lt above)

-- one factor more multiplies the value by s − x
pub target-value : (p x : ℕ) (xs : List ℕ) (s : ℕ) → value (target p (x ∷ xs)) s ≈⟨ p ⟩ (negative p x + s) * value (target p xs) s
unfolding target value
target-value p x xs s = ≈_trans (≋-value (≋-reduced p (product (factor p x) (target p xs))) s) (≈-eq p (rw value-product (omega arith)))

pub target-zero : {p : ℕ} → 0 < p → (xs : List ℕ) → Vanishes p (target p xs) xs
target-zero {p} pos [] = record { zero_at = λ i h. absurd (omega arith) }
target-zero {p} pos (x ∷ xs) = record { zero_at = at (target-zero pos xs) }
  where
    at : Vanishes p (target p xs) xs → Each (λ y. value (target p (x ∷ xs)) y ≈⟨ p ⟩ 0) (x ∷ xs)
    at rest zero h = ≈_trans (target-value p x xs x) (by (≈-times (value (target p xs) x) (≈-negative pos x)) (omega arith))
    at rest (suc i) h =
        let y = get_or xs i 0 in
        ≈_trans (target-value p x xs y) (by (≈-times (negative p x + y) (rest.zero_at i (omega arith))) (omega arith))

-- where the target is 0 there is a point
pub target-only : {p : ℕ} → Prime p → (xs : List ℕ) (s : ℕ) → value (target p xs) s ≈⟨ p ⟩ 0 →
    (i : ℕ) × (i < length xs) × (s ≈⟨ p ⟩ get_or xs i 0)
unfolding target value
target-only prime [] s h =
    let one : ◌≡◌ {A = ℕ} 1 0 = ≈-words (by h (omega arith)) prime.above_one (positive prime) in
    absurd (omega arith)
target-only {p} prime (x ∷ xs) s h = ⊎_elim
    (λ k. (0, omega arith, by (≈-plus k (≈_sym (≈-negative (positive prime) x))) (omega arith)))
    (λ k. let (i, l, e) = target-only prime xs s k in (suc i, omega arith, e))
    (no_zero_divisors prime (negative p x + s) (value (target p xs) s) (≈_trans (≈_sym (target-value p x xs s)) h))
