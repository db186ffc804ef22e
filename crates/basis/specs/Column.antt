-- A column from values most of which are 0: what is lent for it, and what adding the values point by point has done so far.
-- RULES 4: a column has m words and takes a(i,j) at point i for i = 1..m; a coefficient not listed is 0.
use Rattle.std.specs.Prelude.{◌≡◌, List, ℕ, ◌+◌, ◌<◌, ◌≤◌, length, get_or}
use Rattle.algebra.specs.Congruence.{◌≈⟨◌⟩◌}
use Rattle.algebra.specs.Polynomial.{Words, value}
use Rattle.algebra.specs.Points.{row_points, target}
use Rattle.algebra.specs.Basis.{BasisWeights}

-- the target and the basis weights of the points 1..m, of which there are at most 256
pub record Prepared (p m : ℕ) (z ws : List ℕ) : Type 0 where
  pub few : m ≤ 256
  pub is_target : z ≡ target p (row_points m)
  pub are_weights : BasisWeights p (row_points m) ws

-- at the first n points new takes what old takes plus y, and at the others what old takes
pub record AddedFirst (p : ℕ) (xs : List ℕ) (y : ℕ → ℕ) (n : ℕ) (old new : List ℕ) : Type 0 where
  pub size : length new ≡ length old
  pub words : Words p new
  pub first : (k : ℕ) → k < n → value new (get_or xs k 0) ≈⟨ p ⟩ value old (get_or xs k 0) + y k
  pub after : (k : ℕ) → n ≤ k → k < length xs → value new (get_or xs k 0) ≈⟨ p ⟩ value old (get_or xs k 0)
