-- The list through given values at consecutive points, in place, with a table t of the inverses of 1, 2, ..
-- RULES 4: a column has m words and takes a(i,j) at point i for i = 1..m.
use Rattle.std.specs.Prelude.{List, [], ◌∷◌, ℕ, zero, suc, ◌+◌, ◌*◌, ◌-◌, ◌%◌, length}
use Rattle.poly.specs.Factor.{times_factor}
use Rattle.algebra.specs.Points.{consecutive}

-- (value − y) / 1, (value − y) / 2, .. of the values after y
unfoldable pub differences : ℕ → List ℕ → ℕ → List ℕ → List ℕ
differences p t y [] = []
differences p [] y (a ∷ v) = a ∷ v
differences p (d ∷ t) y (a ∷ v) = ((a + (p - y)) * d % p) ∷ differences p t y v

-- Newton's coefficients, the first n of them: each value stays, and those after it become differences to it
unfoldable pub newton : ℕ → List ℕ → ℕ → List ℕ → List ℕ
newton p t zero v = v
newton p t (suc n) [] = []
newton p t (suc n) (y ∷ v) = y ∷ newton p t n (differences p t y v)

-- Newton's coefficients to powers: the first one plus (X − x) times what the others make at the points after x
unfoldable pub powers : ℕ → List ℕ → List ℕ → List ℕ
powers p [] v = v
powers p (x ∷ xs) [] = []
powers p (x ∷ xs) (y ∷ v) = times_factor p x (y ∷ powers p xs v)

-- the list through the values v at x, x + 1, ..
unfoldable pub interpolated : ℕ → List ℕ → ℕ → List ℕ → List ℕ
interpolated p t x v = powers p (consecutive x (length v)) (newton p t (length v) v)
