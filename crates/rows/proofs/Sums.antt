-- The loop's words are the row sums: adding an entry to its row makes the sums over one entry more, and the sums over all
-- entries of a section are those over the columns (RULES 4). Row sums are as many as rows, and field words.
use mathlib.Core.Bool.{Bool, true, false}
use mathlib.Core.List.{List}
use mathlib.Core.Path.{◌≡◌, refl, sym, ◌∙◌, ap}
use Prim.Native.Nat.{ℕ, suc, ◌+◌, ◌*◌, ◌-◌, ◌%◌, ◌≤◌, ◌<◌}
use native.Mathlib.Nat.{mod-lt, zero-mod}
use native.Mathlib.Numerals.{add-one}
use native.Mathlib.Omega.{arith}
use borrow.Author.Tests.{eq-eqb, ne_eqb}
use lib.Dec.{eqb}
use lib.ListN.{length, get_or, set}
use Rattle.outcome.specs.Verdict.{within, Within}
use Rattle.algebra.specs.Polynomial.{Words}
use Rattle.algebra.proofs.Congruence.{≈-plus, ≈-reduced, ≈_refl}
use Rattle.algebra.specs.Prime.{FieldPrime}
use Rattle.algebra.proofs.Inverse.{positive}
use Rattle.circuit.specs.Circuit.{word, rows, entries, row_of, column_of, value_of, section, coef}
use Rattle.circuit.specs.WellFormed.{Formed}
use Rattle.algebra.specs.Combination.{total}
use Rattle.circuit.specs.Totals.{table, only}
use Rattle.circuit.proofs.Totals.{length-table, table_at}
use Rattle.circuit.proofs.Tables.{table_same, set-table}
use Rattle.circuit.proofs.Entries.{row-entries}
use Rattle.assignment.specs.Assignment.{assigned}
use Rattle.rows.specs.Rows.{row_sum, row_sums}
use Rattle.rows.specs.Sums.{entry_part, entry_sums, with_entry}

module _ (p : ℕ) (c : List ℕ) (s : ℕ) (a : List ℕ) (from to e : ℕ) where
  -- what the entry adds where its column counts
  product : ℕ
  product = assigned c a (column_of c s e) * value_of c s e

  own_row : within (suc from) (column_of c s e) to ≡ true → entry_part c s a from to (row_of c s e) e ≡ product
  unfolding product
  own_row h = rw (eq-eqb (row_of c s e) (row_of c s e) refl, h)

  other_row : (i : ℕ) → (row_of c s e ≡ i → ⊥) → entry_part c s a from to i e ≡ 0
  other_row i h = rw (ne_eqb (row_of c s e) i h)

  no_column : within (suc from) (column_of c s e) to ≡ false → (i : ℕ) → entry_part c s a from to i e ≡ 0
  no_column h i = rw h (nothing (eqb (row_of c s e) i))
    where
      nothing : (b : Bool) → only b 0 ≡ 0
      nothing true = refl
      nothing false = refl

  sums : ℕ → ℕ → ℕ
  sums k i = total (entry_part c s a from to (suc i)) k % p

  same_sum : (i : ℕ) → entry_part c s a from to (suc i) e ≡ 0 → sums (suc e) i ≡ sums e i
  unfolding sums total
  same_sum i h = ap (λ (x : ℕ). x % p) (omega arith)

  more-sum : (r : ℕ) → row_of c s e ≡ suc r → within (suc from) (column_of c s e) to ≡ true →
      sums (suc e) r ≡ (sums e r + product) % p
  unfolding sums total
  more-sum r h k =
      let here : entry_part c s a from to (suc r) e ≡ product = rw (← h) (own_row k) in
      ap (λ (x : ℕ). (total (entry_part c s a from to (suc r)) e + x) % p) here
      ∙ sym (≈-plus (≈-reduced p (total (entry_part c s a from to (suc r)) e)) (≈_refl p product)).same

  pub next-entry : Within 1 (row_of c s e) (rows c) →
      with_entry p c s a from to e (entry_sums p c s a from to e) ≡ entry_sums p c s a from to (e + 1)
  unfolding with_entry entry_sums sums product
  next-entry row = rw (add-one e) (go (within (suc from) (column_of c s e) to) refl)
    where
      go : (b : Bool) → within (suc from) (column_of c s e) to ≡ b →
          ◌≡◌ {A = List ℕ}
          (elim b [
            | true ↦ set (table (sums e) (rows c)) (row_of c s e - 1) ((word (table (sums e) (rows c)) (row_of c s e - 1) + product) % p)
            | false ↦ table (sums e) (rows c)
          ])
          (table (sums (suc e)) (rows c))
      go true h =
          let up : row_of c s e ≡ suc (row_of c s e - 1) = omega arith in
          let low : row_of c s e - 1 < rows c = omega arith in
          set-table (sums e) (sums (suc e)) (rows c) (row_of c s e - 1) _ low
          (more-sum (row_of c s e - 1) up h ∙ rw (table_at (sums e) (rows c) (row_of c s e - 1) low))
          (λ i l apart. same_sum i (other_row (suc i) (λ q. apart (omega arith))))
      go false h = table_same (sums e) (sums (suc e)) (rows c) (λ i l. sym (same_sum i (no_column h (suc i))))

pub all-entries : {p : ℕ} {c : List ℕ} → Formed p c → (a : List ℕ) (matrix from to : ℕ) → matrix < 3 → from ≤ to →
    entry_sums p c (section c matrix) a from to (entries c (section c matrix)) ≡ row_sums p c a matrix from to
unfolding entry_sums row_sums row_sum coef
all-entries {p} {c} formed a matrix from to l up =
    let whole : from + (to - from) ≡ to = omega arith in
    table_same _ _ (rows c) (λ i below. ap (λ (x : ℕ). x % p)
    (sym (rw whole at (row-entries formed.column_count.at_most (formed.matrices matrix l) (assigned c a) (suc i) from (to - from)))))

pub length-entry_sums : (p : ℕ) (c : List ℕ) (s : ℕ) (a : List ℕ) (from to k : ℕ) → length (entry_sums p c s a from to k) ≡ rows c
unfolding entry_sums
length-entry_sums p c s a from to k = length-table _ (rows c)

pub no_entries : (p : ℕ) (c : List ℕ) (s : ℕ) (a : List ℕ) (from to : ℕ) → table (λ i. 0) (rows c) ≡ entry_sums p c s a from to 0
unfolding entry_sums total
no_entries p c s a from to = table_same _ _ (rows c) (λ i l. sym (zero-mod p))

-- the row sums as a list
module _ (p : ℕ) (c a : List ℕ) (matrix from to : ℕ) where
  pub length-sums : length (row_sums p c a matrix from to) ≡ rows c
  unfolding row_sums
  length-sums = length-table (λ i. row_sum c a matrix (suc i) from to % p) (rows c)

  pub sum_at : (i : ℕ) → i < rows c → get_or (row_sums p c a matrix from to) i 0 ≡ row_sum c a matrix (suc i) from to % p
  unfolding row_sums
  sum_at i l = table_at (λ i. row_sum c a matrix (suc i) from to % p) (rows c) i l

  pub sums-words : FieldPrime p → Words p (row_sums p c a matrix from to)
  sums-words field = record {
    below = λ i l.
        rw (sum_at i (omega (arith, length-sums))) (mod-lt (row_sum c a matrix (suc i) from to) (positive field.prime));
  }
