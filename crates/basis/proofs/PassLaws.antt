-- The two passes of the basis values: what their running words are, and that together they multiply each word by all (s − x) of the
-- other points. So they make the basis values of the basis weights. RULES 5.
use mathlib.Core.Path.{◌≡◌, refl, ◌∙◌, ap}
use mathlib.Core.List.{List, [], ◌∷◌}
use Prim.Native.Nat.{ℕ, zero, suc, ◌+◌, ◌*◌, ◌-◌, ◌%◌, ◌<◌}
use native.Mathlib.Nat.{mod-lt, zero-add, add-zero, add-suc, suc-add}
use native.Mathlib.Numerals.{one-add}
use native.Mathlib.Omega.{arith}
use lib.ListN.{length, get_or}
use Rattle.algebra.specs.Congruence.{◌≈⟨◌⟩◌, negative}
use Rattle.algebra.specs.Points.{consecutive, row_points}
use Rattle.algebra.specs.Basis.{apartness, others, BasisWeights, BasisValues}
use Rattle.algebra.proofs.Congruence.{≈-eq, ≈_sym, ≈_trans, ≈-plus, ≈-times, ≈-product, ≈-reduced, by}
use Rattle.algebra.proofs.Target.{target-value}
use Rattle.algebra.proofs.Consecutive.{length-row_points}
use Rattle.algebra.proofs.ConsecutiveBasis.{value_none, value_last, target-append, without-consecutive}
use Rattle.basis.specs.BasisAt.{BasisAt}
use Rattle.basis.specs.Passes.{mapped, points_before, points_from, times_before, times_after}

length-mapped : (g : ℕ → ℕ → ℕ) (k : ℕ) (f : List ℕ) → length (mapped g k f) ≡ length f
unfolding mapped
length-mapped g k [] = refl
length-mapped g k (a ∷ f) = ap suc (length-mapped g (suc k) f)

mapped_at : (g : ℕ → ℕ → ℕ) (k : ℕ) (f : List ℕ) (i : ℕ) → i < length f → get_or (mapped g k f) i 0 ≡ g (k + i) (get_or f i 0)
unfolding mapped
mapped_at g k [] i l = absurd (omega arith)
mapped_at g k (a ∷ f) zero l = rw (add-zero k)
mapped_at g k (a ∷ f) (suc i) l = mapped_at g (suc k) f i (omega arith) ∙ rw (add-suc k i, suc-add k i)

module _ (p s : ℕ) where
  -- a word times a running word
  pub times-running : (a v : ℕ) {word r : ℕ} → word ≡ v % p → r ≡ a * word % p → r ≡ a * v % p
  times-running a v e n = rw (n, e) (≈-times a (≈-reduced p v)).same

  -- a running word and one factor s − x more
  pub running-factor : (x v : ℕ) {word factor next w : ℕ} → word ≡ v % p → factor ≡ (s + negative p x) % p → next ≡ word * factor % p →
      w ≈⟨ p ⟩ (negative p x + s) * v → next ≡ w % p
  running-factor x v e f n h =
      rw (n, e, f)
      (≈_sym (≈_trans h (≈_trans (≈-eq p (omega arith)) (≈_sym (≈-product (≈-reduced p v) (≈-reduced p (s + negative p x))))))).same

  pub none_before : points_before p s 0 ≡ 1
  unfolding points_before consecutive
  none_before = value_none p s

  pub none_from : (m : ℕ) → points_from p m s m ≡ 1
  unfolding points_from consecutive
  none_from m =
      let none : m - m ≡ 0 = omega arith in
      rw none (value_none p s)

  pub next_before : (i : ℕ) → points_before p s (suc i) ≈⟨ p ⟩ (negative p (suc i) + s) * points_before p s i
  unfolding points_before
  next_before i = rw one-add at (value_last p 1 i s)

  pub next_from : (m i : ℕ) → i < m → points_from p m s i ≈⟨ p ⟩ (negative p (suc i) + s) * points_from p m s (suc i)
  unfolding points_from consecutive
  next_from m i l =
      let left : m - i ≡ suc (m - suc i) = omega arith in
      rw left (target-value p (suc i) (consecutive (suc (suc i)) (m - suc i)) s)

  -- all points but number i are those before it and those after it
  others-parts : (m i : ℕ) → i < m → others p (row_points m) i s ≈⟨ p ⟩ points_before p s i * points_from p m s (suc i)
  unfolding points_before points_from
  others-parts m i l =
      let after : suc (1 + i) ≡ suc (suc i) = omega arith in
      rw (without-consecutive 1 m i l, after)
      (target-append p (row_points i) (consecutive (suc (suc i)) (m - suc i)) s)

  -- both passes over the word of point number i
  both-passes : (f : List ℕ) (i : ℕ) → i < length f →
      get_or (times_after p s (times_before p s f)) i 0 ≡ get_or f i 0 * points_before p s i % p * points_from p (length f) s (suc i) % p
  unfolding times_after times_before
  both-passes f i l =
      let b = times_before p s f in
      let size : length b ≡ length f = length-mapped _ 0 f in
      mapped_at (λ j a. a * points_from p (length b) s (suc j) % p) 0 b i (omega arith) ∙
      rw (zero-add, size, mapped_at (λ j a. a * points_before p s j % p) 0 f i l, zero-add)

  pub passes-values : (m : ℕ) → 0 < p → {ws : List ℕ} → BasisWeights p (row_points m) ws →
      BasisValues p (row_points m) s (times_after p s (times_before p s ws))
  unfolding times_after times_before
  passes-values m pos {ws} h = record {
    size = all;
    words = record { below = λ i l. let inside : i < length ws = omega (arith, h.size, all) in rw (both-passes ws i inside) (mod-lt _ pos) };
    at_point = at;
  }
    where
      all : length (times_after p s (times_before p s ws)) ≡ length (row_points m)
      all = length-mapped _ 0 (times_before p s ws) ∙ length-mapped _ 0 ws ∙ h.size

      at : (i : ℕ) → i < length (row_points m) →
          get_or (times_after p s (times_before p s ws)) i 0 * apartness p (row_points m) i ≈⟨ p ⟩ others p (row_points m) i s
      at i l =
          let size : length ws ≡ m = h.size ∙ length-row_points m in
          let inside : i < m = omega (arith, h.size) in
          let w = get_or ws i 0 in
          let b = points_before p s i in
          let f = points_from p m s (suc i) in
          let a = apartness p (row_points m) i in
          rw (both-passes ws i (omega arith), size)
          (by
          (≈-plus
          (≈-plus (≈-times a (≈-reduced p (w * b % p * f))) (≈-times (a * f) (≈-reduced p (w * b))))
          (≈-plus (≈-times (b * f) (h.inverse i l).leaves_one) (≈_sym (others-parts m i inside))))
          (omega arith))

  -- what the weights and the two passes leave
  pub passes_at : (m : ℕ) → 0 < p → {ws us bs : List ℕ} {z : ℕ} → BasisWeights p (row_points m) ws → us ≡ times_before p s ws →
      z ≡ points_before p s (length ws) % p → bs ≡ times_after p s us → BasisAt p m s bs z
  unfolding points_before
  passes_at m pos h before z after =
      let size = h.size ∙ length-row_points m in
      record { values = rw (after, before) (passes-values m pos h); target_at = rw size at z }
