-- Values added point by point: a value times its weight times the target divided by X − x is that value at x and 0 at the other
-- points. So adding all of them to zeros makes the list through the values. Over any prime and any distinct points.
-- RULES 4.
use mathlib.Core.Path.{◌≡◌, refl, sym, ◌∙◌, ap}
use mathlib.Core.List.{List}
use Prim.Native.Nat.{ℕ, zero, suc, ◌+◌, ◌*◌, ◌%◌, ◌<◌, ◌≤◌}
use native.Mathlib.Decide.{dec_lt}
use native.Mathlib.Numerals.{add-one}
use native.Mathlib.Omega.{arith}
use borrow.Author.Count.{below_more}
use lib.ListN.{length, get_or}
use Rattle.algebra.specs.Congruence.{◌≈⟨◌⟩◌}
use Rattle.algebra.specs.Prime.{Prime}
use Rattle.algebra.specs.Polynomial.{Words, value}
use Rattle.algebra.specs.Points.{Distinct, target, Through}
use Rattle.algebra.specs.Basis.{apartness, BasisWeights}
use Rattle.algebra.proofs.Congruence.{≈-eq, ≈_refl, ≈_sym, ≈_trans, ≈-plus, ≈-times, ≈-reduced, by}
use Rattle.algebra.proofs.Inverse.{positive}
use Rattle.algebra.proofs.Polynomial.{value-sum, value-multiple}
use Rattle.algebra.proofs.Same.{≋-value}
use Rattle.algebra.specs.Polynomial.{divided}
use Rattle.algebra.proofs.Roots.{length-divided, divided-zero}
use Rattle.algebra.proofs.Target.{length-target, target-zero}
use Rattle.algebra.proofs.Without.{divided-target}
use Rattle.poly.specs.AddScaled.{scaled}
use Rattle.slices.specs.Zeros.{zeros}
use Rattle.slices.proofs.Rooms.{length-zeros}
use Rattle.poly.proofs.ScaledLaws.{length-scaled, words-scaled, scaled-sum}
use Rattle.basis.specs.Column.{AddedFirst}

module _ {p : ℕ} {xs : List ℕ} {y : ℕ → ℕ} {n : ℕ} {old f : List ℕ} (a : AddedFirst p xs y n old f) (inside : n < length xs) where
  -- y n more at point number n, and nothing at the others
  added_at : {g : List ℕ} → length g ≡ length f → Words p g → value g (get_or xs n 0) ≈⟨ p ⟩ value f (get_or xs n 0) + y n →
      ((k : ℕ) → k < length xs → (k ≡ n → ⊥) → value g (get_or xs k 0) ≈⟨ p ⟩ value f (get_or xs k 0)) → AddedFirst p xs y (suc n) old g
  added_at {g} size words here other = record {
    size = size ∙ a.size;
    words = words;
    first =
        rw (← add-one n)
        (below_more (λ k. value g (get_or xs k 0) ≈⟨ p ⟩ value old (get_or xs k 0) + y k) n
        (λ k l. ≈_trans (other k (omega arith) (λ e. omega arith)) (a.first k l))
        (≈_trans here (≈-plus (a.after n (omega arith) inside) (≈_refl p (y n)))));
    after = λ k h l. ≈_trans (other k l (λ e. omega arith)) (a.after k (omega arith) l);
  }

  -- a value 0 adds nothing
  pub added-zero : y n ≡ 0 → AddedFirst p xs y (suc n) old f
  added-zero none = added_at refl a.words (≈-eq p (omega arith)) (λ k l e. ≈_refl p (value f (get_or xs k 0)))

  -- y n times its weight times the target divided by X − x, where x is the point
  pub added-column : Prime p → Distinct p xs → {ws : List ℕ} → BasisWeights p xs ws → length old ≡ length xs →
      AddedFirst p xs y (suc n) old (scaled p (y n * get_or ws n 0 % p) (divided (get_or xs n 0) (target p xs)) f)
  added-column prime distinct {ws} weights size = added_at (length-scaled p d q f) (words-scaled pos d q f a.words) here other
    where
      pos : 0 < p
      pos = positive prime

      x : ℕ
      x = get_or xs n 0

      d : ℕ
      d = y n * get_or ws n 0 % p

      q : List ℕ
      q = divided x (target p xs)

      value-added : (s : ℕ) → value (scaled p d q f) s ≈⟨ p ⟩ value f s + d * value q s
      value-added s =
          let fits : length q ≤ length f = omega (arith, length-divided x (target p xs), length-target p xs, a.size) in
          ≈_trans (≋-value (scaled-sum p d q f fits) s) (≈-eq p (simp (value-sum, value-multiple)))

      here : value (scaled p d q f) x ≈⟨ p ⟩ value f x + y n
      here =
          let apart = apartness p xs n in
          let w = get_or ws n 0 in
          by
          (≈-plus
          (≈-plus (value-added x) (≈-times d (≋-value (divided-target pos xs n inside) x)))
          (≈-plus (≈-times apart (≈-reduced p (y n * w))) (≈-times (y n) (weights.inverse n inside).leaves_one)))
          (omega arith)

      other : (k : ℕ) → k < length xs → (k ≡ n → ⊥) → value (scaled p d q f) (get_or xs k 0) ≈⟨ p ⟩ value f (get_or xs k 0)
      other k l e =
          let differ : x ≈⟨ p ⟩ get_or xs k 0 → ⊥ = λ same. elim (dec_lt n k) [
            | yes less ↦ distinct.apart n k less l same
            | no not ↦ distinct.apart k n (omega arith) inside (≈_sym same)
          ] in
          let zero_at = target-zero pos xs in
          by
          (≈-plus (value-added (get_or xs k 0))
          (≈-times d (divided-zero prime (target p xs) differ (zero_at.zero_at n inside) (zero_at.zero_at k l))))
          (omega arith)

value-zeros : (n s : ℕ) → value (zeros n) s ≡ 0
unfolding value zeros
value-zeros zero s = refl
value-zeros (suc n) s = omega (arith, ap (λ (v : ℕ). s * v) (value-zeros n s))

-- all values added to zeros: the list through them
pub through-added : {p : ℕ} {xs : List ℕ} {y : ℕ → ℕ} {n : ℕ} {old f : List ℕ} → length xs ≡ n → old ≡ zeros n → AddedFirst p xs y n old f →
    Through p xs y f
through-added {p} {xs} {n = n} many cleared a = record {
  size = a.size ∙ rw (cleared, length-zeros n) (sym many);
  words = a.words;
  takes = λ i l. ≈_trans (a.first i (omega arith)) (rw cleared (≈-eq p (omega (arith, value-zeros n (get_or xs i 0)))));
}
