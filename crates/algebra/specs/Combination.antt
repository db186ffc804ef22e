-- Sums over columns: of numbers, and of multiples of polynomials.
-- RULES 4: A(X) is the sum of w_j A_j(X) over all j; a private part is the same over some j.
use Rattle.std.specs.Prelude.{List, [], ℕ, zero, suc, ◌+◌}
use Rattle.algebra.specs.Polynomial.{sum, multiple}

-- g 0 + g 1 + .. + g (n − 1)
unfoldable pub total : (ℕ → ℕ) → ℕ → ℕ
total g zero = 0
total g (suc n) = total g n + g n

-- w 0 times f 0 + .. + w (n − 1) times f (n − 1)
unfoldable pub combination : (ℕ → ℕ) → (ℕ → List ℕ) → ℕ → List ℕ
combination w f zero = []
combination w f (suc n) = sum (combination w f n) (multiple (w n) (f n))
