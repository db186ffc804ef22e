-- Roots: a list of at most k entries that is 0 at k distinct points is 0; so values at enough points fix a list,
-- and a list of k entries that is not 0 is 0 at fewer than k distinct points. By synthetic division.
use mathlib.Core.Path.{◌≡◌, refl, ap}
use mathlib.Core.Logic.{⊎_elim}
use mathlib.Core.List.{List, [], ◌∷◌}
use Prim.Native.Nat.{ℕ, suc, pred, ◌+◌, ◌*◌, ◌^◌, ◌<◌, ◌≤◌}
use native.Mathlib.Nat.{pow-succ', pow-zero, lt_of_not-le}
use native.Mathlib.Omega.{arith}
use lib.ListN.{length, get_or}
use Rattle.algebra.specs.Congruence.{◌≈⟨◌⟩◌}
use Rattle.algebra.specs.Prime.{Prime}
use Rattle.algebra.specs.Polynomial.{Each, value, divided, ◌≋⟨◌⟩◌}
use Rattle.algebra.specs.Points.{Distinct, Vanishes}
use Rattle.algebra.proofs.Congruence.{≈_sym, ≈-plus, ≈-times, zero_or_not, by}
use Rattle.algebra.proofs.Inverse.{cancel, positive}
use Rattle.algebra.proofs.Same.{≋_refl}
use Rattle.algebra.proofs.Difference.{difference, length-difference, difference-value, difference-zero}
use Rattle.algebra.proofs.Pairing.{pairing, pairings, by_pairings, pairing-times, value-pairing}

pub length-divided : (c : ℕ) (f : List ℕ) → length (divided c f) ≡ pred (length f)
unfolding divided
length-divided c [] = refl
length-divided c (a ∷ []) = refl
length-divided c (a ∷ b ∷ f) = ap suc (length-divided c (b ∷ f))

-- f = (X − c) times the quotient, plus its value at c
pub divided-pairing : (c : ℕ) (f : List ℕ) (φ : ℕ → ℕ) →
    pairing f φ + c * pairing (divided c f) φ ≡ value f c * φ 0 + pairing (divided c f) (λ k. φ (suc k))
unfolding divided value pairing
divided-pairing c [] φ = omega arith
divided-pairing c (a ∷ []) φ = omega arith
divided-pairing c (a ∷ b ∷ f) φ = omega (arith, divided-pairing c (b ∷ f) (λ k. φ (suc k)))

pub divided-value : (c : ℕ) (f : List ℕ) (s : ℕ) →
    value f s + c * value (divided c f) s ≡ value f c + s * value (divided c f) s
divided-value c f s =
    let q = divided c f in
    let d : pairing f (λ k. s ^ k) + c * pairing q (λ k. s ^ k) ≡ value f c * 1 + pairing q (λ k. s * s ^ k) =
    simp (pow-zero, pow-succ') at (divided-pairing c f (λ k. s ^ k)) in
    rw (value-pairing f s, value-pairing q s) (omega (arith, d, pairing-times s q (λ k. s ^ k)))

pub distinct-rest : {p x : ℕ} {xs : List ℕ} → Distinct p (x ∷ xs) → Distinct p xs
distinct-rest d = record { apart = λ i j h k. d.apart (suc i) (suc j) (omega arith) (omega arith) }

module _ {p : ℕ} (prime : Prime p) where
  -- where f is 0 at x and at y, the quotient by X − x is 0 at y
  pub divided-zero : {x y : ℕ} (f : List ℕ) → (x ≈⟨ p ⟩ y → ⊥) → value f x ≈⟨ p ⟩ 0 → value f y ≈⟨ p ⟩ 0 → value (divided x f) y ≈⟨ p ⟩ 0
  divided-zero {x} {y} f apart fx fy =
      let q = value (divided x f) y in
      let same : x * q ≈⟨ p ⟩ y * q = by (≈-plus fx (≈_sym fy)) (omega (arith, divided-value x f y)) in
      ⊎_elim (λ h. h) (λ nonzero. absurd (apart (cancel prime q nonzero same))) (zero_or_not p q)

  pub vanishes-divided : {x : ℕ} {xs : List ℕ} (f : List ℕ) → Distinct p (x ∷ xs) → Vanishes p f (x ∷ xs) → Vanishes p (divided x f) xs
  vanishes-divided f d v = record {
    zero_at = λ i h. divided-zero f (d.apart 0 (suc i) (omega arith) (omega arith)) (v.zero_at 0 (omega arith)) (v.zero_at (suc i) (omega arith));
  }

  -- where f is 0 at x and its quotient by X − x is 0, f is 0
  from_divided : (x : ℕ) (f : List ℕ) → value f x ≈⟨ p ⟩ 0 → divided x f ≋⟨ p ⟩ [] → f ≋⟨ p ⟩ []
  unfolding pairing
  from_divided x f fx h = by_pairings (λ φ.
      let q = divided x f in
      by
      (≈-plus (≈-plus (≈-times (φ 0) fx) (pairings q [] h (λ k. φ (suc k)))) (≈-times x (≈_sym (pairings q [] h φ))))
      (omega (arith, divided-pairing x f φ)))

  -- a list with no more entries than there are points that is 0 at all of them is 0
  pub roots : (xs f : List ℕ) → Distinct p xs → length f ≤ length xs → Vanishes p f xs → f ≋⟨ p ⟩ []
  roots [] [] d few v = ≋_refl p []
  roots [] (a ∷ f) d few v = absurd (omega arith)
  roots (x ∷ xs) f d few v =
      from_divided x f (v.zero_at 0 (omega arith))
      (roots xs (divided x f) (distinct-rest d) (omega (arith, length-divided x f)) (vanishes-divided f d v))

  -- equal values at enough points are equal lists
  pub same-values : (xs f g : List ℕ) → Distinct p xs → length f ≤ length xs → length g ≤ length xs →
      Each (λ x. value f x ≈⟨ p ⟩ value g x) xs → f ≋⟨ p ⟩ g
  same-values xs f g d few-f few-g h =
      difference-zero (positive prime) f g
      (roots xs (difference p f g) d (rw (length-difference p f g) (omega arith))
      (record { zero_at = λ i l. difference-value (positive prime) f g (get_or xs i 0) (h i l) }))

  -- a list that is not 0 has more entries than distinct points at which it is 0
  pub few-roots : (xs f : List ℕ) → Distinct p xs → (f ≋⟨ p ⟩ [] → ⊥) → Vanishes p f xs → length xs < length f
  few-roots xs f d nonzero v = lt_of_not-le (λ few. nonzero (roots xs f d few v))
