-- The basis of a list of points: for each point the product of the differences to the others, its inverse, and the basis value at s.
-- RULES 4 and RULES 5: with these a value at s needs no polynomial.
use Rattle.std.specs.Prelude.{◌≡◌, List, [], ◌∷◌, ℕ, zero, suc, ◌*◌, ◌<◌, length, get_or}
use Rattle.algebra.specs.Congruence.{◌≈⟨◌⟩◌, negative, Inverse}
use Rattle.algebra.specs.Polynomial.{Words, value}
use Rattle.algebra.specs.Points.{target}

-- the points but number i
unfoldable pub without : ℕ → List ℕ → List ℕ
without i [] = []
without zero (x ∷ xs) = xs
without (suc i) (x ∷ xs) = x ∷ without i xs

-- all (s − x_j) but (s − x_i), multiplied
abbrev pub others : ℕ → List ℕ → ℕ → ℕ → ℕ
others p xs i s = value (target p (without i xs)) s

-- all (x_i − x_j) but its own, multiplied
abbrev pub apartness : ℕ → List ℕ → ℕ → ℕ
apartness p xs i = others p xs i (get_or xs i 0)

-- −1 · −2 · .. · −n: the differences of a point to the n points right after it, multiplied
unfoldable pub descent : ℕ → ℕ → ℕ
descent p zero = 1
descent p (suc n) = descent p n * negative p (suc n)

-- a word for each point: the inverse of its differences to the others
pub record BasisWeights (p : ℕ) (xs ws : List ℕ) : Type 0 where
  pub size : length ws ≡ length xs
  pub inverse : (i : ℕ) → i < length xs → Inverse p (apartness p xs i) (get_or ws i 0)

-- a word for each point: the basis polynomial, 1 at the point and 0 at the others, at s
pub record BasisValues (p : ℕ) (xs : List ℕ) (s : ℕ) (bs : List ℕ) : Type 0 where
  pub size : length bs ≡ length xs
  pub words : Words p bs
  pub at_point : (i : ℕ) → i < length xs → get_or bs i 0 * apartness p xs i ≈⟨ p ⟩ others p xs i s
