-- Lists over the indices below a number, and terms that count where a test holds: what columns and row sums are written with.
-- RULES 4.
use Rattle.std.specs.Prelude.{Bool, true, false, List, [], ◌∷◌, ℕ, zero, suc}

-- the list f 0, f 1, .., f (k − 1)
unfoldable pub table : (ℕ → ℕ) → ℕ → List ℕ
table f zero = []
table f (suc k) = f 0 ∷ table (λ i. f (suc i)) k

-- x where the test holds, else 0
abbrev pub only : Bool → ℕ → ℕ
only true x = x
only false x = 0
