-- Polynomials as lists of numbers, power 0 first: value, quotient by X − c, sum, multiple, product, and when two are the same modulo p.
-- RULES 4. All is exact in ℕ: `reduced` alone makes words, and `≋` alone compares modulo p.
use Rattle.std.specs.Prelude.{List, [], ◌∷◌, ℕ, ◌+◌, ◌*◌, ◌%◌, ◌<◌, length, get_or}
use Rattle.algebra.specs.Congruence.{◌≈⟨◌⟩◌}

-- each entry of a list has the property
abbrev pub Each : (ℕ → Type 0) → List ℕ → Type 0
Each P f = (i : ℕ) → i < length f → P (get_or f i 0)

-- the value at s; powers begin with 0, so the first entry counts as it is
unfoldable pub value : List ℕ → ℕ → ℕ
value [] s = 0
value (a ∷ f) s = a + s * value f s

-- f divided by X − c: each entry is the value at c of what follows it
unfoldable pub divided : ℕ → List ℕ → List ℕ
divided c [] = []
divided c (a ∷ []) = []
divided c (a ∷ b ∷ f) = value (b ∷ f) c ∷ divided c (b ∷ f)

unfoldable pub sum : List ℕ → List ℕ → List ℕ
sum [] g = g
sum (a ∷ f) [] = a ∷ f
sum (a ∷ f) (b ∷ g) = (a + b) ∷ sum f g

unfoldable pub multiple : ℕ → List ℕ → List ℕ
multiple k [] = []
multiple k (a ∷ f) = (k * a) ∷ multiple k f

unfoldable pub product : List ℕ → List ℕ → List ℕ
product [] g = []
product (a ∷ f) g = sum (multiple a g) (0 ∷ product f g)

-- the list's words modulo p
unfoldable pub reduced : ℕ → List ℕ → List ℕ
reduced p [] = []
reduced p (a ∷ f) = (a % p) ∷ reduced p f

-- a list of field words
pub record Words (p : ℕ) (f : List ℕ) : Type 0 where
  pub below : Each (λ a. a < p) f

infix 50 ◌≋⟨◌⟩◌
-- the same polynomial modulo p: every coefficient, where those past a list's end are 0
pub record ◌≋⟨◌⟩◌ (f : List ℕ) (p : ℕ) (g : List ℕ) : Type 0 where
  pub coefficient : (k : ℕ) → get_or f k 0 ≈⟨ p ⟩ get_or g k 0
