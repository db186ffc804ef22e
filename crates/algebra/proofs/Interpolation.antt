-- Interpolation: through any values at distinct points there is exactly one list of that many words.
-- A list through all points but the first gets the multiple of their target that is missing at the first.
-- RULES 4.
use mathlib.Core.Path.{◌≡◌, refl, sym, ◌∙◌}
use mathlib.Core.List.{List, [], ◌∷◌}
use Prim.Native.Nat.{ℕ, zero, suc, ◌+◌, ◌*◌, ◌<◌}
use native.Mathlib.Nat.{le_of_eq}
use native.Mathlib.Omega.{arith}
use lib.ListN.{length, get_or}
use Rattle.algebra.specs.Congruence.{◌≈⟨◌⟩◌}
use Rattle.algebra.specs.Prime.{Prime}
use Rattle.algebra.specs.Polynomial.{value, sum, multiple, reduced}
use Rattle.algebra.specs.Points.{Distinct, target, Through}
use Rattle.algebra.proofs.Congruence.{≈_sym, ≈_trans, ≈-plus, ≈-times, ≈-eq, by}
use Rattle.algebra.proofs.Inverse.{positive, solve}
use Rattle.algebra.proofs.Polynomial.{length-sum, length-multiple, length-reduced, value-sum, value-multiple}
use Rattle.algebra.proofs.Same.{≋-value, ≋-reduced, reduced-words, words-equal}
use Rattle.algebra.proofs.Roots.{distinct-rest, same-values}
use Rattle.algebra.proofs.Target.{length-target, target-zero, target-only}

module _ {p : ℕ} (prime : Prime p) where
  -- the target of the other points is not 0 at the first
  pub first-apart : (x : ℕ) (xs : List ℕ) → Distinct p (x ∷ xs) → value (target p xs) x ≈⟨ p ⟩ 0 → ⊥
  first-apart x xs d h =
      let (i, l, e) = target-only prime xs x h in
      d.apart 0 (suc i) (omega arith) (omega arith) e

  -- d times the target added to a list through the other points
  one_more : {x : ℕ} {xs : List ℕ} {y : ℕ → ℕ} {g : List ℕ} (d : ℕ) → Through p xs (λ i. y (suc i)) g →
      value g x + d * value (target p xs) x ≈⟨ p ⟩ y 0 → Through p (x ∷ xs) y (reduced p (sum g (multiple d (target p xs))))
  one_more {x} {xs} {y} {g} d t h = record {
    size = simp (length-reduced, length-sum, length-multiple, length-target, t.size) (omega arith);
    words = reduced-words (positive prime) f;
    takes = at;
  }
    where
      f : List ℕ
      f = sum g (multiple d (target p xs))

      value_f : (s : ℕ) → value (reduced p f) s ≈⟨ p ⟩ value g s + d * value (target p xs) s
      value_f s = ≈_trans (≋-value (≋-reduced p f) s) (≈-eq p (simp (value-sum, value-multiple)))

      at : (i : ℕ) → i < suc (length xs) → value (reduced p f) (get_or (x ∷ xs) i 0) ≈⟨ p ⟩ y i
      at zero l = ≈_trans (value_f x) h
      at (suc i) l =
          ≈_trans (value_f (get_or xs i 0))
          (by (≈-plus (t.takes i (omega arith)) (≈-times d ((target-zero (positive prime) xs).zero_at i (omega arith)))) (omega arith))

  pub interpolation : (xs : List ℕ) → Distinct p xs → (y : ℕ → ℕ) → (f : List ℕ) × Through p xs y f
  interpolation [] d y = ([], record { size = refl; words = record { below = λ i h. absurd (omega arith) }; takes = λ i h. absurd (omega arith) })
  interpolation (x ∷ xs) d y =
      let (g, t) = interpolation xs (distinct-rest d) (λ i. y (suc i)) in
      let (k, word, h) = solve prime (value (target p xs) x) (first-apart x xs d) (value g x) (y 0) in
      (reduced p (sum g (multiple k (target p xs))), one_more k t h)

  pub interpolation_unique : {xs : List ℕ} → Distinct p xs → {y : ℕ → ℕ} {f g : List ℕ} → Through p xs y f → Through p xs y g → f ≡ g
  interpolation_unique {xs} d {y} {f} {g} s t =
      words-equal (s.size ∙ sym t.size) s.words t.words
      (same-values prime xs f g d (le_of_eq s.size) (le_of_eq t.size) (λ i h. ≈_trans (s.takes i h) (≈_sym (t.takes i h))))
