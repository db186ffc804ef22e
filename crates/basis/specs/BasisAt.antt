-- What `basis_values` gives: the basis values of the points 1..m at s, and the target's value there.
-- RULES 5: Z(s), and the columns' values at s, which need no polynomial.
use Rattle.std.specs.Prelude.{◌≡◌, List, ℕ, ◌%◌}
use Rattle.algebra.specs.Polynomial.{value}
use Rattle.algebra.specs.Points.{row_points, target}
use Rattle.algebra.specs.Basis.{BasisValues}

pub record BasisAt (p m s : ℕ) (bs : List ℕ) (z : ℕ) : Type 0 where
  pub values : BasisValues p (row_points m) s bs
  pub target_at : z ≡ value (target p (row_points m)) s % p
