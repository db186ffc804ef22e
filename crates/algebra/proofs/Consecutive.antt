-- Consecutive points: how many, which, and that they are distinct where there are no more than p.
use mathlib.Core.Path.{◌≡◌, refl, ap}
use Prim.Native.Nat.{ℕ, zero, suc, ◌+◌, ◌<◌, ◌≤◌}
use native.Mathlib.Omega.{arith}
use lib.ListN.{length, get_or}
use Rattle.algebra.specs.Congruence.{◌≈⟨◌⟩◌}
use Rattle.algebra.specs.Points.{consecutive, row_points, Distinct}
use Rattle.algebra.proofs.Congruence.{≈-words, by}

pub length-consecutive : (x m : ℕ) → length (consecutive x m) ≡ m
unfolding consecutive
length-consecutive x zero = refl
length-consecutive x (suc m) = ap suc (length-consecutive (suc x) m)

pub consecutive_at : (x m i : ℕ) → i < m → get_or (consecutive x m) i 0 ≡ x + i
unfolding consecutive
consecutive_at x zero i h = absurd (omega arith)
consecutive_at x (suc m) zero h = omega arith
consecutive_at x (suc m) (suc i) h = omega (arith, consecutive_at (suc x) m i (omega arith))

pub distinct-consecutive : {p : ℕ} (x m : ℕ) → m ≤ p → Distinct p (consecutive x m)
distinct-consecutive {p} x m few = record { apart = apart }
  where
    apart : (i j : ℕ) → i < j → j < length (consecutive x m) → get_or (consecutive x m) i 0 ≈⟨ p ⟩ get_or (consecutive x m) j 0 → ⊥
    apart i j less inside h =
        let below : j < m = omega (arith, length-consecutive x m) in
        let sums : x + i ≈⟨ p ⟩ x + j = rw (consecutive_at x m i (omega arith), consecutive_at x m j below) at h in
        let same : i ≡ j = ≈-words (by sums (omega arith)) (omega arith) (omega arith) in
        omega arith

-- the points of m rows

pub length-row_points : (m : ℕ) → length (row_points m) ≡ m
length-row_points m = length-consecutive 1 m

pub row_points_at : (m i : ℕ) → i < m → get_or (row_points m) i 0 ≡ suc i
row_points_at m i l = omega (arith, consecutive_at 1 m i l)

pub distinct-row_points : {p : ℕ} (m : ℕ) → m ≤ p → Distinct p (row_points m)
distinct-row_points m few = distinct-consecutive 1 m few
