-- At consecutive points the differences to the others are 1 · 2 · .. to the points before and −1 · −2 · .. to those after.
use mathlib.Core.Path.{◌≡◌, ◌∙◌, ap}
use mathlib.Core.List.{List, [], ◌∷◌, ◌++◌}
use Prim.Native.Nat.{ℕ, zero, suc, ◌+◌, ◌*◌, ◌-◌, ◌<◌}
use native.Mathlib.Nat.{add-suc, suc-add, add-zero}
use native.Mathlib.Omega.{arith}
use Rattle.algebra.specs.Congruence.{◌≈⟨◌⟩◌, negative}
use Rattle.algebra.specs.Polynomial.{value}
use Rattle.algebra.specs.Points.{consecutive, target}
use Rattle.algebra.specs.Basis.{without, apartness, descent}
use Rattle.algebra.proofs.Congruence.{≈-eq, ≈_sym, ≈_trans, ≈-plus, ≈-times, ≈-product, ≈-negative, by}
use Rattle.algebra.proofs.Consecutive.{consecutive_at}
use Rattle.algebra.proofs.Target.{target-value}

-- 1 · 2 · .. · n
unfoldable pub ascent : ℕ → ℕ
ascent zero = 1
ascent (suc n) = ascent n * suc n

pub value_none : (p s : ℕ) → value (target p []) s ≡ 1
unfolding target value
value_none p s = omega arith

-- the target of two runs of points
pub target-append : (p : ℕ) (xs ys : List ℕ) (s : ℕ) → value (target p (xs ++ ys)) s ≈⟨ p ⟩ value (target p xs) s * value (target p ys) s
target-append p [] ys s = ≈-eq p (rw (value_none p s) (omega arith))
target-append p (x ∷ xs) ys s =
    let k = negative p x + s in
    ≈_trans (target-value p x (xs ++ ys) s)
    (by (≈-plus (≈-times k (target-append p xs ys s)) (≈-times (value (target p ys) s) (≈_sym (target-value p x xs s)))) (omega arith))

pub consecutive-last : (x m : ℕ) → consecutive x (suc m) ≡ consecutive x m ++ ((x + m) ∷ [])
unfolding consecutive
consecutive-last x zero = rw (add-zero x)
consecutive-last x (suc m) = ap (λ (l : List ℕ). x ∷ l) (consecutive-last (suc x) m ∙ rw (add-suc x m, suc-add x m))

-- one point more at the end
pub value_last : (p x n s : ℕ) → value (target p (consecutive x (suc n))) s ≈⟨ p ⟩ (negative p (x + n) + s) * value (target p (consecutive x n)) s
value_last p x n s =
    let y = x + n in
    let k = negative p y + s in
    let one : k * value (target p []) s ≡ k = rw (value_none p s) (omega arith) in
    let v = value (target p (consecutive x n)) s in
    rw (consecutive-last x n)
    (≈_trans (target-append p (consecutive x n) (y ∷ []) s) (by (≈-times v (target-value p y [] s)) (omega (arith, ap (λ (t : ℕ). v * t) one))))

pub without-consecutive : (x m i : ℕ) → i < m → without i (consecutive x m) ≡ consecutive x i ++ consecutive (suc (x + i)) (m - suc i)
unfolding consecutive without
without-consecutive x zero i l = absurd (omega arith)
without-consecutive x (suc m) zero l =
    let rest : suc m - 1 ≡ m = omega arith in
    rw (add-zero x, rest)
without-consecutive x (suc m) (suc i) l =
    let rest : suc m - suc (suc i) ≡ m - suc i = omega arith in
    ap (λ (l : List ℕ). x ∷ l) (without-consecutive (suc x) m i (omega arith) ∙ rw (add-suc x i, suc-add x i, rest))

module _ {p : ℕ} (pos : 0 < p) where
  -- from right above all points
  value_after : (x n : ℕ) → value (target p (consecutive x n)) (x + n) ≈⟨ p ⟩ ascent n
  unfolding consecutive ascent
  value_after x zero = ≈-eq p (value_none p (x + 0))
  value_after x (suc n) =
      let v = value (target p (consecutive (suc x) n)) (x + suc n) in
      let same : suc x + n ≡ x + suc n = omega arith in
      let before : v ≈⟨ p ⟩ ascent n = rw same at (value_after (suc x) n) in
      ≈_trans (target-value p x (consecutive (suc x) n) (x + suc n))
      (by (≈-plus (≈-times v (≈-negative pos x)) (≈-times (suc n) before)) (omega arith))

  -- from right below all points
  value_before : (s n : ℕ) → value (target p (consecutive (suc s) n)) s ≈⟨ p ⟩ descent p n
  unfolding consecutive descent
  value_before s zero = ≈-eq p (value_none p s)
  value_before s (suc n) =
      let v = value (target p (consecutive (suc s) n)) s in
      by (≈-plus (≈-plus (value_last p (suc s) n s) (≈-times v (≈-negative pos s))) (≈-times (negative p (suc n)) (value_before s n))) (omega arith)

  pub apartness-consecutive : (x m i : ℕ) → i < m → apartness p (consecutive x m) i ≈⟨ p ⟩ ascent i * descent p (m - suc i)
  apartness-consecutive x m i l =
      rw (without-consecutive x m i l, consecutive_at x m i l)
      (≈_trans (target-append p (consecutive x i) (consecutive (suc (x + i)) (m - suc i)) (x + i))
      (≈-product (value_after x i) (value_before (x + i) (m - suc i))))
