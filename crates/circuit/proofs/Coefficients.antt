-- What a coefficient is (RULES 2): the value of the entry listed there, and 0 where none is; and a sum over
-- listed entries is the sum over rows and columns of the coefficients.
use mathlib.Core.Bool.{Bool, true, false}
use mathlib.Core.List.{List}
use mathlib.Core.Logic.{⊎_elim}
use mathlib.Core.Path.{◌≡◌, refl, sym, ◌∙◌}
use Prim.Native.Nat.{ℕ, zero, suc, ◌*◌, ◌≤◌, ◌<◌}
use native.Mathlib.Nat.{eq-or-lt_of_le, zero-add}
use native.Mathlib.Omega.{arith}
use borrow.Author.Tests.{eq-eqb}
use lib.Dec.{eqb}
use Rattle.outcome.specs.Verdict.{within}
use Rattle.outcome.proofs.Verdict.{apart, within_true}
use Rattle.circuit.specs.Limits.{most_columns}
use Rattle.circuit.specs.Circuit.{listed_rows, rows, columns, entries, row_of, column_of, value_of, section, is_at, listed, coef}
use Rattle.circuit.specs.WellFormed.{SectionFormed, Formed}
use Rattle.algebra.specs.Combination.{total}
use Rattle.circuit.specs.Totals.{only}
use Rattle.circuit.proofs.Totals.{total-same, total_swap, total-pick}
use Rattle.circuit.proofs.Rows.{row_inside}
use Rattle.circuit.proofs.Entries.{at_place, one_only, row-entries}

module _ {p : ℕ} {c : List ℕ} {s : ℕ} (formed : SectionFormed p c s) where
  listed-none : (i j k : ℕ) → ((e : ℕ) → e < k → row_of c s e ≡ i → column_of c s e ≡ j → ⊥) → listed c s i j k ≡ 0
  unfolding listed
  listed-none i j zero h = refl
  listed-none i j (suc k) h = go (is_at c s i j k) refl (listed-none i j k (λ e l. h e (omega arith)))
    where
      go : (b : Bool) → is_at c s i j k ≡ b → listed c s i j k ≡ 0 →
          ◌≡◌ {A = ℕ} (elim b [ true ↦ value_of c s k | false ↦ listed c s i j k ]) 0
      go true here none = let place = at_place c s i j k here in absurd (h k (omega arith) place.0 place.1)
      go false here none = none

  listed-value : columns c ≤ most_columns → (i j e k : ℕ) → e < k → k ≤ entries c s → is_at c s i j e ≡ true → listed c s i j k ≡ value_of c s e
  unfolding listed
  listed-value few i j e zero h l there = absurd (omega arith)
  listed-value few i j e (suc k) h l there = go (is_at c s i j k) refl (listed-value few i j e k)
    where
      go : (b : Bool) → is_at c s i j k ≡ b → (e < k → k ≤ entries c s → is_at c s i j e ≡ true → listed c s i j k ≡ value_of c s e) →
          elim b as (λ b. ℕ) [ true ↦ value_of c s k | false ↦ listed c s i j k ] ≡ value_of c s e
      go true here lower = ⊎_elim
          (λ (same : e ≡ k). rw same)
          (λ (less : e < k). absurd (one_only few formed i j e k less l there here))
          (eq-or-lt_of_le (omega arith))
      go false here lower = ⊎_elim
          (λ (same : e ≡ k). absurd (apart (sym there ∙ rw (← same) at here)))
          (λ (less : e < k). lower less (omega arith) there)
          (eq-or-lt_of_le (omega arith))

  -- a sum over the entries, each with a factor by its row and column
  entries-sum : columns c ≤ most_columns → (g : ℕ → ℕ → ℕ) →
      total (λ e. g (row_of c s e) (column_of c s e) * value_of c s e) (entries c s)
      ≡ total (λ i. total (λ j. g (suc i) (suc j) * listed c s (suc i) (suc j) (entries c s)) (columns c)) (rows c)
  entries-sum few g = sym
      (total-same _ _ (rows c) (λ i l. simp zero-add at (row-entries few formed (g (suc i)) (suc i) 0 (columns c)))
      ∙ total_swap (λ i e. only (eqb (row_of c s e) (suc i)) (only (within 1 (column_of c s e) (columns c)) (g (suc i) (column_of c s e) * value_of c s e))) (rows c) (entries c s)
      ∙ total-same _ _ (entries c s) (λ e l.
      let entry = formed.entry e l in
      simp zero-add at (total-pick (λ i. only (within 1 (column_of c s e) (columns c)) (g i (column_of c s e) * value_of c s e)) (row_of c s e) 0 (rows c))
      ∙ rw (within_true (row_inside entry), within_true entry.column)))

is_at_lem : (c : List ℕ) (s e : ℕ) → is_at c s (row_of c s e) (column_of c s e) e ≡ true
is_at_lem c s e = rw (eq-eqb (row_of c s e) (row_of c s e) refl, eq-eqb (column_of c s e) (column_of c s e) refl)

-- the same for the matrix of a circuit
module _ {p : ℕ} {c : List ℕ} (formed : Formed p c) (matrix : ℕ) (l : matrix < 3) where
  pub coef-listed : (e : ℕ) → e < entries c (section c matrix) →
      coef c matrix (row_of c (section c matrix) e) (column_of c (section c matrix) e) ≡ value_of c (section c matrix) e
  unfolding coef
  coef-listed e h =
      listed-value (formed.matrices matrix l) formed.column_count.at_most _ _ e (entries c (section c matrix)) h (omega arith)
      (is_at_lem c (section c matrix) e)

  pub coef-none : (i j : ℕ) →
      ((e : ℕ) → e < entries c (section c matrix) → row_of c (section c matrix) e ≡ i → column_of c (section c matrix) e ≡ j → ⊥) →
      coef c matrix i j ≡ 0
  unfolding coef
  coef-none i j h = listed-none (formed.matrices matrix l) i j (entries c (section c matrix)) h

  -- rows that are not listed have no coefficient
  pub coef_unlisted : (i j : ℕ) → listed_rows c < i → coef c matrix i j ≡ 0
  coef_unlisted i j above = coef-none i j (λ e h row column. omega (arith, ((formed.matrices matrix l).entry e h).row.at_most))

  pub coef-sum : (g : ℕ → ℕ → ℕ) →
      total (λ e. g (row_of c (section c matrix) e) (column_of c (section c matrix) e) * value_of c (section c matrix) e) (entries c (section c matrix))
      ≡ total (λ i. total (λ j. g (suc i) (suc j) * coef c matrix (suc i) (suc j)) (columns c)) (rows c)
  unfolding coef
  coef-sum g = entries-sum (formed.matrices matrix l) formed.column_count.at_most g
