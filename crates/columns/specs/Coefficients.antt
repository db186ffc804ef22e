-- One column of a matrix, row by row: its coefficients, and what the first entries of the section make of it.
-- RULES 2: a coefficient not listed is 0.
use Rattle.std.specs.Prelude.{List, ℕ, suc}
use Rattle.circuit.specs.Circuit.{rows, listed, coef}
use Rattle.circuit.specs.Totals.{table}

-- column j by the first k entries of a section
unfoldable pub listed_column : List ℕ → ℕ → ℕ → ℕ → List ℕ
listed_column c s j k = table (λ i. listed c s (suc i) j k) (rows c)

-- a(1,j), a(2,j), .., a(m,j)
unfoldable pub coef_column : List ℕ → ℕ → ℕ → List ℕ
coef_column c matrix j = table (λ i. coef c matrix (suc i) j) (rows c)
