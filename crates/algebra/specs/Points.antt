-- Points, the target through them, the list that takes given values at them, and the quotient by the target.
-- RULES 4: target Z(X) is the product of (X − i); a column has as many words as there are points and takes its value at each.
use Rattle.std.specs.Prelude.{Bool, false, ◌||◌, ◌≡◌, List, [], ◌∷◌, ℕ, zero, suc, ◌-◌, ◌<◌, eqb, length, get_or}
use Rattle.algebra.specs.Congruence.{◌≈⟨◌⟩◌, negative}
use Rattle.algebra.specs.Polynomial.{Each, Words, value, product, reduced, ◌≋⟨◌⟩◌}

-- x, x + 1, .., m points in all
unfoldable pub consecutive : ℕ → ℕ → List ℕ
consecutive x zero = []
consecutive x (suc m) = x ∷ consecutive (suc x) m

-- the points of m rows: 1, 2, .., m
abbrev pub row_points : ℕ → List ℕ
row_points m = consecutive 1 m

-- s is one of the points
unfoldable pub among : ℕ → List ℕ → Bool
among s [] = false
among s (x ∷ xs) = eqb s x || among s xs

-- no two points are the same modulo p
pub record Distinct (p : ℕ) (xs : List ℕ) : Type 0 where
  pub apart : (i j : ℕ) → i < j → j < length xs → get_or xs i 0 ≈⟨ p ⟩ get_or xs j 0 → ⊥

-- f is 0 at all points
pub record Vanishes (p : ℕ) (f xs : List ℕ) : Type 0 where
  pub zero_at : Each (λ x. value f x ≈⟨ p ⟩ 0) xs

-- X − x
abbrev pub factor : ℕ → ℕ → List ℕ
factor p x = negative p x ∷ 1 ∷ []

-- the product of all (X − x), as words
unfoldable pub target : ℕ → List ℕ → List ℕ
target p [] = 1 ∷ []
target p (x ∷ xs) = reduced p (product (factor p x) (target p xs))

-- f has as many words as there are points, and takes the value y i at point number i, counted from 0
pub record Through (p : ℕ) (xs : List ℕ) (y : ℕ → ℕ) (f : List ℕ) : Type 0 where
  pub size : length f ≡ length xs
  pub words : Words p f
  pub takes : (i : ℕ) → i < length xs → value f (get_or xs i 0) ≈⟨ p ⟩ y i

-- f is the target times h, with the length that leaves
pub record Quotient (p : ℕ) (xs f h : List ℕ) : Type 0 where
  pub size : length h ≡ length f - length xs
  pub words : Words p h
  pub exact : f ≋⟨ p ⟩ product (target p xs) h
