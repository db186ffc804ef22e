-- A column entry by entry: writing an entry to its row, where its column is the one asked for, makes the column of one entry
-- more; no entry leaves 0, and all entries of a matrix's section make its coefficients.
-- RULES 2.
use mathlib.Core.Bool.{Bool, true, false, ◌&&◌}
use mathlib.Core.List.{List}
use mathlib.Core.Path.{◌≡◌, refl, sym}
use Prim.Native.Nat.{ℕ, suc, ◌+◌, ◌-◌, ◌<◌}
use native.Mathlib.Numerals.{add-one}
use native.Mathlib.Omega.{arith}
use borrow.Author.Tests.{eq-eqb, ne_eqb}
use lib.Dec.{eqb}
use lib.ListN.{length, get_or, set, replicate}
use Rattle.outcome.specs.Verdict.{Within}
use Rattle.circuit.specs.Circuit.{rows, entries, row_of, column_of, value_of, section, listed, coef}
use Rattle.columns.specs.Coefficients.{listed_column, coef_column}
use Rattle.circuit.proofs.Totals.{length-table, table_at}
use Rattle.circuit.proofs.Tables.{table_same, set-table, table-zero}

module _ (c : List ℕ) (s i j e : ℕ) where
  listed_here : row_of c s e ≡ i → column_of c s e ≡ j → listed c s i j (suc e) ≡ value_of c s e
  unfolding listed
  listed_here h k = rw (listed, eq-eqb (row_of c s e) i h, eq-eqb (column_of c s e) j k)

  listed-other_row : (row_of c s e ≡ i → ⊥) → listed c s i j (suc e) ≡ listed c s i j e
  unfolding listed
  listed-other_row h = rw (listed, ne_eqb (row_of c s e) i h)

  listed-other-column : (column_of c s e ≡ j → ⊥) → listed c s i j (suc e) ≡ listed c s i j e
  unfolding listed
  listed-other-column h = rw (listed, ne_eqb (column_of c s e) j h, neither (eqb (row_of c s e) i))
    where
      neither : (b : Bool) → b && false ≡ false
      neither true = refl
      neither false = refl

module _ (c : List ℕ) (s j : ℕ) where
  pub length-listed : (e : ℕ) → length (listed_column c s j e) ≡ rows c
  unfolding listed_column
  length-listed e = length-table _ (rows c)

  pub no_entries : replicate (rows c) 0 ≡ listed_column c s j 0
  unfolding listed_column listed
  no_entries = table-zero (rows c)

  pub other-column : (e : ℕ) → (column_of c s e ≡ j → ⊥) → listed_column c s j e ≡ listed_column c s j (e + 1)
  unfolding listed_column
  other-column e h = rw (add-one e) (table_same _ _ (rows c) (λ i l. sym (listed-other-column c s _ j e h)))

  pub own_column : (e : ℕ) → Within 1 (row_of c s e) (rows c) → column_of c s e ≡ j →
      set (listed_column c s j e) (row_of c s e - 1) (value_of c s e) ≡ listed_column c s j (e + 1)
  unfolding listed_column
  own_column e row h = rw (add-one e)
      (set-table _ _ (rows c) (row_of c s e - 1) (value_of c s e) (omega (arith, row.at_least, row.at_most))
      (listed_here c s (suc (row_of c s e - 1)) j e (omega (arith, row.at_least)) h)
      (λ i l other. listed-other_row c s (suc i) j e (λ q. other (omega (arith, row.at_least)))))

pub all-entries : (c : List ℕ) (matrix j : ℕ) →
    listed_column c (section c matrix) j (entries c (section c matrix)) ≡ coef_column c matrix j
unfolding listed_column coef_column coef
all-entries c matrix j = refl

pub length_coefs : (c : List ℕ) (matrix j : ℕ) → length (coef_column c matrix j) ≡ rows c
unfolding coef_column
length_coefs c matrix j = length-table (λ i. coef c matrix (suc i) j) (rows c)

pub coefs_at : (c : List ℕ) (matrix j i : ℕ) → i < rows c → get_or (coef_column c matrix j) i 0 ≡ coef c matrix (suc i) j
unfolding coef_column
coefs_at c matrix j i l = table_at (λ i. coef c matrix (suc i) j) (rows c) i l
