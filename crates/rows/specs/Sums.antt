-- What the loops that sum rows do, entry by entry, and what they ask; proofs/Sums.antt shows that they give specs/Rows.antt's sums.
-- RULES 4.
use Rattle.std.specs.Prelude.{true, false, List, ◌≡◌, ℕ, suc, ◌+◌, ◌-◌, ◌*◌, ◌%◌, ◌≤◌, ◌<◌, eqb, length, set}
use Rattle.outcome.specs.declared.Outcome.{Outcome}
use Rattle.outcome.specs.Verdict.{require, within, first_fault}
use Rattle.circuit.specs.Circuit.{word, rows, columns, row_of, column_of, value_of}
use Rattle.algebra.specs.Combination.{total}
use Rattle.circuit.specs.Totals.{table, only}
use Rattle.assignment.specs.Assignment.{assigned_at, assigned}
use Rattle.rows.specs.Rows.{row_sums, rows_verdict}

-- sums over the columns after `from` up to `to` can be made: those columns are there, and so are their values
pub record Span (c a : List ℕ) (from to : ℕ) : Type 0 where
  pub ascending : from ≤ to
  pub inside : to ≤ columns c
  pub given : assigned_at c to < length a

-- what entry e of a section adds to row i
abbrev pub entry_part : List ℕ → ℕ → List ℕ → ℕ → ℕ → ℕ → ℕ → ℕ
entry_part c s a from to i e =
    only (eqb (row_of c s e) i) (only (within (suc from) (column_of c s e) to) (assigned c a (column_of c s e) * value_of c s e))

-- the rows' sums over the first k entries of a section, as field words
unfoldable pub entry_sums : ℕ → List ℕ → ℕ → List ℕ → ℕ → ℕ → ℕ → List ℕ
entry_sums p c s a from to k = table (λ i. total (entry_part c s a from to (suc i)) k % p) (rows c)

-- the words after entry e was added to its row
unfoldable pub with_entry : ℕ → List ℕ → ℕ → List ℕ → ℕ → ℕ → ℕ → List ℕ → List ℕ
with_entry p c s a from to e xs =
    elim (within (suc from) (column_of c s e) to) [
      | true ↦ set xs (row_of c s e - 1) ((word xs (row_of c s e - 1) + assigned c a (column_of c s e) * value_of c s e) % p)
      | false ↦ xs
    ]

-- 10 over lists of row sums
unfoldable pub sums_verdict : ℕ → List ℕ → List ℕ → List ℕ → Outcome
sums_verdict p a b c = first_fault (λ i. require (eqb (word a i * word b i % p) (word c i)) 10 (suc i)) (length a)

-- three lists of row sums over all columns, of A, B and C
pub record WholeSums (p : ℕ) (c w a b d : List ℕ) : Type 0 where
  pub first : a ≡ row_sums p c w 0 0 (columns c)
  pub second : b ≡ row_sums p c w 1 0 (columns c)
  pub third : d ≡ row_sums p c w 2 0 (columns c)

-- the lists made, and the verdict over them
pub record RowsRead (p : ℕ) (c w a b d : List ℕ) (r : Outcome) : Type 0 where
  pub sums : WholeSums p c w a b d
  pub outcome : r ≡ rows_verdict p c w
