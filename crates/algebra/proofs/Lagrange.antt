-- The value at s of the list through given values, without the list: the sum of u_i times all (s − x_j) but (s − x_i),
-- where u_i times all (x_i − x_j) but its own is the value at x_i. RULES 5.
use mathlib.Core.Path.{◌≡◌, sym, ◌∙◌}
use mathlib.Core.Logic.{⊎_elim}
use mathlib.Core.List.{List, [], ◌∷◌}
use Prim.Native.Nat.{ℕ, zero, suc, ◌+◌, ◌*◌, ◌<◌, ◌≤◌}
use native.Mathlib.Nat.{le_of_eq}
use native.Mathlib.Decide.{dec_lt}
use native.Mathlib.Omega.{arith}
use lib.ListN.{length, get_or}
use lib.Seq.{ext_get_or}
use Rattle.algebra.specs.Congruence.{◌≈⟨◌⟩◌, negative}
use Rattle.algebra.specs.Prime.{Prime}
use Rattle.algebra.specs.Polynomial.{value, divided, multiple}
use Rattle.algebra.specs.Points.{Distinct, target, Through}
use Rattle.algebra.specs.Basis.{without, apartness, others, BasisValues}
use Rattle.algebra.specs.Combination.{total}
use Rattle.algebra.proofs.Congruence.{≈_refl, ≈_sym, ≈_trans, ≈-plus, ≈-times, ≈-negative, ≈-eq, ≈-words, by}
use Rattle.algebra.proofs.Inverse.{positive, cancel, inverse, no_zero_divisors}
use Rattle.algebra.proofs.Interpolation.{first-apart}
use Rattle.algebra.proofs.Combination.{total_first, total-times, total-≈}
use Rattle.algebra.proofs.Polynomial.{length-multiple, value-multiple}
use Rattle.algebra.proofs.Difference.{difference, length-difference, value-difference}
use Rattle.algebra.proofs.Roots.{length-divided, divided-value, distinct-rest}
use Rattle.algebra.proofs.Target.{length-target, target-value, target-zero}

-- the sum of u i times all (s − x_j) but its own
unfoldable pub cross : ℕ → ℕ → List ℕ → (ℕ → ℕ) → ℕ
cross p s [] u = 0
cross p s (x ∷ xs) u = u 0 * value (target p xs) s + (negative p x + s) * cross p s xs (λ i. u (suc i))

-- points apart from each other have differences that are not 0
apart_first : {p x : ℕ} {xs : List ℕ} → Prime p → Distinct p (x ∷ xs) → (i : ℕ) → i < length xs → negative p x + get_or xs i 0 ≈⟨ p ⟩ 0 → ⊥
apart_first {x = x} prime d i l e =
    d.apart 0 (suc i) (omega arith) (omega arith) (by (≈-plus (≈-negative (positive prime) x) (≈_sym e)) (omega arith))

pub apart_nonzero : {p : ℕ} → Prime p → (xs : List ℕ) → Distinct p xs → (i : ℕ) → i < length xs → apartness p xs i ≈⟨ p ⟩ 0 → ⊥
unfolding without
apart_nonzero prime [] d i l h = omega arith
apart_nonzero prime (x ∷ xs) d zero l h = first-apart prime x xs d h
apart_nonzero {p} prime (x ∷ xs) d (suc i) l h =
    let y = get_or xs i 0 in
    ⊎_elim
    (apart_first prime d i (omega arith))
    (apart_nonzero prime xs (distinct-rest d) i (omega arith))
    (no_zero_divisors prime (negative p x + y) (apartness p xs i) (≈_trans (≈_sym (target-value p x (without i xs) y)) h))

module _ {p : ℕ} (prime : Prime p) (s : ℕ) where
  -- f less u times the target of the other points, divided by X − x
  rest : ℕ → ℕ → List ℕ → List ℕ → List ℕ
  rest x u xs f = divided x (difference p f (multiple u (target p xs)))

  -- where that difference is 0 at x, f is the multiple plus (X − x) times the quotient
  rest-value : (x u : ℕ) (xs f : List ℕ) → u * value (target p xs) x ≈⟨ p ⟩ value f x → (y : ℕ) →
      value f y ≈⟨ p ⟩ u * value (target p xs) y + (negative p x + y) * value (rest x u xs f) y
  unfolding rest
  rest-value x u xs f h y =
      let e = difference p f (multiple u (target p xs)) in
      let z = target p xs in
      let r = value (divided x e) y in
      let pos = positive prime in
      let at : (t : ℕ) → value e t ≡ value f t + negative p (u * value z t) =
      λ t. simp (value-difference, value-multiple) in
      by
      (≈-plus (≈-plus (≈_sym h) (≈-negative pos (u * value z x)))
      (≈_sym (≈-plus (≈-negative pos (u * value z y)) (≈-negative pos (x * r)))))
      (omega (arith, divided-value x e y, at x, at y))

  -- so the quotient takes the values that belong to the other points
  rest-takes : (x u : ℕ) (xs f : List ℕ) (i v : ℕ) → Distinct p (x ∷ xs) → i < length xs → u * value (target p xs) x ≈⟨ p ⟩ value f x →
      v * apartness p (x ∷ xs) (suc i) ≈⟨ p ⟩ value f (get_or xs i 0) → v * apartness p xs i ≈⟨ p ⟩ value (rest x u xs f) (get_or xs i 0)
  unfolding without
  rest-takes x u xs f i v d l h takes =
      let y = get_or xs i 0 in
      cancel prime (negative p x + y) (apart_first prime d i l)
      (by
      (≈-plus (≈-plus (≈_sym (≈-times v (target-value p x (without i xs) y))) takes)
      (≈-plus (rest-value x u xs f h y) (≈-times u ((target-zero (positive prime) xs).zero_at i l))))
      (omega arith))

  lagrange : (xs : List ℕ) (u : ℕ → ℕ) (f : List ℕ) → Distinct p xs → length f ≤ length xs →
      ((i : ℕ) → i < length xs → u i * apartness p xs i ≈⟨ p ⟩ value f (get_or xs i 0)) → value f s ≈⟨ p ⟩ cross p s xs u
  unfolding cross without value rest
  lagrange [] u [] d few h = ≈_refl p 0
  lagrange [] u (a ∷ f) d few h = absurd (omega arith)
  lagrange (x ∷ xs) u f d few h =
      let z = target p xs in
      let g = rest x (u 0) xs f in
      let split = rest-value x (u 0) xs f (h 0 (omega arith)) in
      let e = difference p f (multiple (u 0) z) in
      let few-g : length g ≤ length xs =
      omega (arith, length-divided x e, length-difference p f (multiple (u 0) z), length-multiple (u 0) z, length-target p xs) in
      let next = lagrange xs (λ i. u (suc i)) g (distinct-rest d) few-g (λ i l.
      rest-takes x (u 0) xs f i (u (suc i)) d l (h 0 (omega arith)) (h (suc i) (omega arith))) in
      ≈_trans (split s) (≈-plus (≈_refl p (u 0 * value z s)) (≈-times (negative p x + s) next))

-- the cross sum, point by point
cross-total : (p s : ℕ) (xs : List ℕ) (u : ℕ → ℕ) → cross p s xs u ≈⟨ p ⟩ total (λ i. u i * others p xs i s) (length xs)
unfolding cross without total
cross-total p s [] u = ≈_refl p 0
cross-total p s (x ∷ xs) u =
    let k = negative p x + s in
    let later : ℕ → ℕ = λ i. u (suc i) * others p xs i s in
    let each = total-≈ {p = p} {g = λ i. k * later i} {h = λ i. u (suc i) * others p (x ∷ xs) (suc i) s} (length xs) (λ i l.
    by (≈-times (u (suc i)) (≈_sym (target-value p x (without i xs) s))) (omega arith)) in
    ≈_trans
    (≈-plus (≈_refl p (u 0 * value (target p xs) s))
    (≈_trans (≈-times k (cross-total p s xs (λ i. u (suc i)))) (≈_trans (≈-eq p (sym (total-times k later (length xs)))) each)))
    (≈-eq p (sym (total_first (λ i. u i * others p (x ∷ xs) i s) (length xs))))

module _ {p : ℕ} (prime : Prime p) {xs : List ℕ} (distinct : Distinct p xs) {s : ℕ} {bs : List ℕ} (basis : BasisValues p xs s bs) where
  inverse_at : (i : ℕ) → (w : ℕ) × (i < length xs → w * apartness p xs i ≈⟨ p ⟩ 1)
  inverse_at i = elim (dec_lt i (length xs)) [
    | yes l ↦ (let found = inverse prime (apartness p xs i) (apart_nonzero prime xs distinct i l) in
        (found.0, λ _. by found.1.leaves_one (omega arith)))
    | no n ↦ (0, λ l. absurd (n l))
  ]

  -- the value at s of the list through y is the sum of the values y times the basis values
  pub basis_value : {y : ℕ → ℕ} {f : List ℕ} → Through p xs y f → value f s ≈⟨ p ⟩ total (λ i. y i * get_or bs i 0) (length xs)
  basis_value {y} {f} t =
      let w : ℕ → ℕ = λ i. (inverse_at i).0 in
      ≈_trans
      (lagrange prime s xs (λ i. y i * w i) f distinct (le_of_eq t.size) (λ i l.
      by (≈-plus (≈-times (y i) ((inverse_at i).1 l)) (≈_sym (t.takes i l))) (omega arith)))
      (≈_trans (cross-total p s xs (λ i. y i * w i)) (total-≈ (length xs) (λ i l.
      by
      (≈-plus (≈-times (y i * w i) (≈_sym (basis.at_point i l))) (≈-times (y i * get_or bs i 0) ((inverse_at i).1 l)))
      (omega arith))))

  -- there is one list of basis values
  pub basis_unique : {cs : List ℕ} → BasisValues p xs s cs → bs ≡ cs
  basis_unique {cs} other = ext_get_or 0 bs cs (basis.size ∙ sym other.size) (λ i l.
      let inside : i < length xs = omega (arith, basis.size) in
      ≈-words (cancel prime (apartness p xs i) (apart_nonzero prime xs distinct i inside)
      (≈_trans (basis.at_point i inside) (≈_sym (other.at_point i inside))))
      (basis.words.below i l) (other.words.below i (omega (arith, basis.size, other.size))))
