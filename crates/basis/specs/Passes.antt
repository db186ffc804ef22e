-- The two passes from basis weights to basis values: each word times all (s − x) of the points before its own, then of those after.
-- RULES 5: s is a point outside 1..m; here any s. Word number i, counted from 0, belongs to the point i + 1.
use Rattle.std.specs.Prelude.{List, [], ◌∷◌, ℕ, suc, ◌*◌, ◌-◌, ◌%◌, length}
use Rattle.algebra.specs.Polynomial.{value}
use Rattle.algebra.specs.Points.{consecutive, row_points, target}

-- each word by its number, where the first one's number is i
unfoldable pub mapped : (ℕ → ℕ → ℕ) → ℕ → List ℕ → List ℕ
mapped g i [] = []
mapped g i (a ∷ f) = g i a ∷ mapped g (suc i) f

-- all (s − x) of the points before number i
unfoldable pub points_before : ℕ → ℕ → ℕ → ℕ
points_before p s i = value (target p (row_points i)) s

-- all (s − x) of the points from number i on, of m
unfoldable pub points_from : ℕ → ℕ → ℕ → ℕ → ℕ
points_from p m s i = value (target p (consecutive (suc i) (m - i))) s

unfoldable pub times_before : ℕ → ℕ → List ℕ → List ℕ
times_before p s f = mapped (λ i a. a * points_before p s i % p) 0 f

unfoldable pub times_after : ℕ → ℕ → List ℕ → List ℕ
times_after p s f = mapped (λ i a. a * points_from p (length f) s (suc i) % p) 0 f
