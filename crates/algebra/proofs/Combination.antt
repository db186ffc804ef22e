-- Sums over columns: they split, and the list through the sums of the columns' values is the sum of the columns.
-- RULES 4.
use mathlib.Core.Path.{◌≡◌, refl}
use mathlib.Core.List.{List}
use Prim.Native.Nat.{ℕ, zero, suc, ◌+◌, ◌*◌, ◌<◌, ◌≤◌}
use native.Mathlib.Nat.{add-zero, add-suc, le_of_eq}
use native.Mathlib.Omega.{arith}
use lib.ListN.{length, get_or}
use Rattle.algebra.specs.Congruence.{◌≈⟨◌⟩◌}
use Rattle.algebra.specs.Prime.{Prime}
use Rattle.algebra.specs.Polynomial.{Words, value, ◌≋⟨◌⟩◌}
use Rattle.algebra.specs.Points.{Distinct, Through}
use Rattle.algebra.specs.Combination.{total, combination}
use Rattle.algebra.proofs.Congruence.{≈_refl, ≈_sym, ≈_trans, ≈-plus, ≈-times}
use Rattle.algebra.proofs.Polynomial.{length-sum, length-multiple, value-sum, value-multiple}
use Rattle.algebra.proofs.Same.{≋-value}
use Rattle.algebra.proofs.Roots.{same-values}

pub total-split : (g : ℕ → ℕ) (n k : ℕ) → total g (n + k) ≡ total g n + total (λ t. g (n + t)) k
unfolding total
total-split g n zero = rw (add-zero n) (omega arith)
total-split g n (suc k) = rw (add-suc n k) (omega (arith, total-split g n k))

pub total_first : (g : ℕ → ℕ) (n : ℕ) → total g (suc n) ≡ g 0 + total (λ t. g (suc t)) n
unfolding total
total_first g zero = omega arith
total_first g (suc n) = omega (arith, total_first g n)

pub total-times : (k : ℕ) (g : ℕ → ℕ) (n : ℕ) → total (λ t. k * g t) n ≡ k * total g n
unfolding total
total-times k g zero = omega arith
total-times k g (suc n) = omega (arith, total-times k g n)

pub total-≈ : {p : ℕ} {g h : ℕ → ℕ} (n : ℕ) → ((t : ℕ) → t < n → g t ≈⟨ p ⟩ h t) → total g n ≈⟨ p ⟩ total h n
unfolding total
total-≈ {p} zero e = ≈_refl p 0
total-≈ (suc n) e = ≈-plus (total-≈ n (λ t l. e t (omega arith))) (e n (omega arith))

value-combination : (w : ℕ → ℕ) (f : ℕ → List ℕ) (n s : ℕ) → value (combination w f n) s ≡ total (λ t. w t * value (f t) s) n
unfolding combination total value
value-combination w f zero s = refl
value-combination w f (suc n) s = simp (value-sum, value-multiple, value-combination w f n s)

length-combination : {m : ℕ} (w : ℕ → ℕ) (f : ℕ → List ℕ) (n : ℕ) → ((t : ℕ) → t < n → length (f t) ≡ m) →
    length (combination w f n) ≤ m
unfolding combination
length-combination w f zero e = omega arith
length-combination w f (suc n) e =
    simp (length-sum, length-multiple)
    (omega (arith, e n (omega arith), length-combination w f n (λ t l. e t (omega arith))))

module _ {p : ℕ} {xs : List ℕ} (y : ℕ → ℕ → ℕ) (w : ℕ → ℕ) (f : ℕ → List ℕ) (n : ℕ)
    (column : (t : ℕ) → t < n → Through p xs (λ i. y i t) (f t)) where
  -- at point i the sum of the columns is the sum of row i
  combination-takes : (i : ℕ) → i < length xs → value (combination w f n) (get_or xs i 0) ≈⟨ p ⟩ total (λ t. w t * y i t) n
  combination-takes i h = rw value-combination (total-≈ n (λ t l. ≈-times (w t) ((column t l).takes i h)))

  pub through-combination : Prime p → Distinct p xs → {g : List ℕ} → Through p xs (λ i. total (λ t. w t * y i t) n) g →
      g ≋⟨ p ⟩ combination w f n
  through-combination prime distinct {g} t =
      same-values prime xs g (combination w f n) distinct (le_of_eq t.size)
      (length-combination w f n (λ t l. (column t l).size)) (λ i h. ≈_trans (t.takes i h) (≈_sym (combination-takes i h)))

  pub combination-through : {g : List ℕ} → length g ≡ length xs → Words p g → g ≋⟨ p ⟩ combination w f n →
      Through p xs (λ i. total (λ t. w t * y i t) n) g
  combination-through size words e =
      record { size = size; words = words; takes = λ i h. ≈_trans (≋-value e (get_or xs i 0)) (combination-takes i h) }
