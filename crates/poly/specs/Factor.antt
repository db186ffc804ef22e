-- Times (X − x), in place. RULES 4: target Z(X) is the product of (X − i).
-- The list has its first word beside the factor: a, then the words of g, stand for a + (X − x) · g.
use Rattle.std.specs.Prelude.{List, [], ◌∷◌, ℕ, ◌+◌, ◌*◌, ◌%◌}
use Rattle.algebra.specs.Congruence.{negative}

-- the words of a + (X − x) · g, where a is the first word and g the others; with a = 0 the words of (X − x) · g
unfoldable pub times_factor : ℕ → ℕ → List ℕ → List ℕ
times_factor p x [] = []
times_factor p x (a ∷ []) = a ∷ []
times_factor p x (a ∷ b ∷ g) = ((a + negative p x * b) % p) ∷ times_factor p x (b ∷ g)
