-- Row sums, and when the rows hold: A times B equals C at each row, in the field.
-- RULES 4 (sums over all columns), RULES 5 (private and public parts), number 10.
use Rattle.std.specs.Prelude.{List, ℕ, suc, ◌+◌, ◌-◌, ◌*◌, ◌%◌, ◌≤◌, ◌<◌, eqb}
use Rattle.algebra.specs.Congruence.{◌≈⟨◌⟩◌}
use Rattle.outcome.specs.declared.Outcome.{Outcome}
use Rattle.outcome.specs.Verdict.{require, Within, first_fault}
use Rattle.circuit.specs.Circuit.{listed_rows, rows, publics, columns, coef}
use Rattle.algebra.specs.Combination.{total}
use Rattle.circuit.specs.Totals.{table}
use Rattle.assignment.specs.Assignment.{assigned}

-- the sum of w_j a(i,j) over the columns after `from` up to `to`, exact
unfoldable pub row_sum : List ℕ → List ℕ → ℕ → ℕ → ℕ → ℕ → ℕ
row_sum c a matrix i from to = total (λ t. assigned c a (suc (from + t)) * coef c matrix i (suc (from + t))) (to - from)

-- over all columns, the public ones alone, the private ones alone

abbrev pub whole_sum : List ℕ → List ℕ → ℕ → ℕ → ℕ
whole_sum c a matrix i = row_sum c a matrix i 0 (columns c)

abbrev pub public_sum : List ℕ → List ℕ → ℕ → ℕ → ℕ
public_sum c a matrix i = row_sum c a matrix i 0 (publics c)

abbrev pub private_sum : List ℕ → List ℕ → ℕ → ℕ → ℕ
private_sum c a matrix i = row_sum c a matrix i (publics c) (columns c)

-- the sums of all rows that have points, as field words
unfoldable pub row_sums : ℕ → List ℕ → List ℕ → ℕ → ℕ → ℕ → List ℕ
row_sums p c a matrix from to = table (λ i. row_sum c a matrix (suc i) from to % p) (rows c)

-- row i holds: A times B equals C there
pub record RowHolds (p : ℕ) (c a : List ℕ) (i : ℕ) : Type 0 where
  pub equal : whole_sum c a 0 i * whole_sum c a 1 i ≈⟨ p ⟩ whole_sum c a 2 i

-- every listed row does; rows are counted from 1
pub record RowsHold (p : ℕ) (c a : List ℕ) : Type 0 where
  pub at_row : (i : ℕ) → 1 ≤ i → i ≤ listed_rows c → RowHolds p c a i

-- row i fails, and every lower row holds
pub record FailsFirst (p : ℕ) (c a : List ℕ) (i : ℕ) : Type 0 where
  pub row : Within 1 i (listed_rows c)
  pub fails : RowHolds p c a i → ⊥
  pub lower : (j : ℕ) → 1 ≤ j → j < i → RowHolds p c a j

-- 10 at row i
unfoldable pub row_verdict : ℕ → List ℕ → List ℕ → ℕ → Outcome
row_verdict p c a i = require (eqb (whole_sum c a 0 i * whole_sum c a 1 i % p) (whole_sum c a 2 i % p)) 10 i

-- 10 at the lowest listed row that fails
unfoldable pub rows_verdict : ℕ → List ℕ → List ℕ → Outcome
rows_verdict p c a = first_fault (λ i. row_verdict p c a (suc i)) (listed_rows c)

-- its place alone: 0 where no row fails
abbrev pub lowest_failing : ℕ → List ℕ → List ℕ → ℕ
lowest_failing p c a = (rows_verdict p c a).place
