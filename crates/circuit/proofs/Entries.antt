-- Entries of a well formed section: they ascend, so at most one is listed at a row and a column, and a sum over the
-- entries is the sum over rows and columns of the coefficients. RULES 2.
use mathlib.Core.Bool.{Bool, true, false, ◌&&◌, ◌||◌}
use mathlib.Core.List.{List}
use mathlib.Core.Logic.{◌⊎◌, inl, inr, ⊎_elim}
use mathlib.Core.Path.{◌≡◌, refl, sym, ◌∙◌, ap}
use Prim.Native.Nat.{ℕ, zero, suc, ◌+◌, ◌*◌, ◌-◌, ◌≤◌, ◌<◌}
use native.Mathlib.Nat.{eq-or-lt_of_le}
use native.Mathlib.Omega.{arith}
use borrow.Author.Tests.{eqb-true, ne_eqb, ltb-true}
use lib.Dec.{eqb, ltb}
use Rattle.outcome.specs.Verdict.{within}
use Rattle.outcome.proofs.Verdict.{apart, both_true}
use Rattle.circuit.specs.Limits.{most_columns}
use Rattle.circuit.specs.Circuit.{columns, entries, row_of, column_of, value_of, is_at, listed}
use Rattle.circuit.specs.Reader.{above}
use Rattle.circuit.specs.WellFormed.{SectionFormed}
use Rattle.algebra.specs.Combination.{total}
use Rattle.algebra.proofs.Combination.{total-times}
use Rattle.circuit.specs.Totals.{only}
use Rattle.circuit.proofs.Totals.{total-same, total-zero, total_swap, total-pick}

-- one number for a row and a column: columns are at most `most_columns`
abbrev rank : List ℕ → ℕ → ℕ → ℕ
rank c s e = (most_columns + 1) * row_of c s e + column_of c s e

above_means : (r k r0 k0 : ℕ) → above r k r0 k0 ≡ true → (r0 < r) ⊎ ((r0 ≡ r) × (k0 < k))
above_means r k r0 k0 h = go (ltb r0 r) refl (eqb r0 r) refl (ltb k0 k) refl h
  where
    go : (a : Bool) → ltb r0 r ≡ a → (b : Bool) → eqb r0 r ≡ b → (d : Bool) → ltb k0 k ≡ d → a || (b && d) ≡ true →
        (r0 < r) ⊎ ((r0 ≡ r) × (k0 < k))
    go true ea b eb d ed h = inl (ltb-true r0 r ea)
    go false ea true eb true ed h = inr (eqb-true r0 r eb, ltb-true k0 k ed)
    go false ea true eb false ed h = absurd (apart (sym h))
    go false ea false eb d ed h = absurd (apart (sym h))

pub at_place : (c : List ℕ) (s i j e : ℕ) → is_at c s i j e ≡ true → (row_of c s e ≡ i) × (column_of c s e ≡ j)
at_place c s i j e h = let parts = both_true (eqb (row_of c s e) i) h in (eqb-true _ _ parts.0, eqb-true _ _ parts.1)

module _ {p : ℕ} {c : List ℕ} (few : columns c ≤ most_columns) {s : ℕ} (formed : SectionFormed p c s) where
  step : (e : ℕ) → suc e < entries c s → rank c s e < rank c s (suc e)
  step e l =
      let here = formed.entry (suc e) l in
      let before = formed.entry e (omega arith) in
      let one_less : suc e - 1 ≡ e = omega arith in
      let goes-up = rw (ne_eqb (suc e) 0 (λ q. omega arith), one_less) at here.ascending in
      ⊎_elim
      (λ (h : row_of c s e < row_of c s (suc e)). omega (arith, here.column.at_least, before.column.at_most))
      (λ (h : (row_of c s e ≡ row_of c s (suc e)) × (column_of c s e < column_of c s (suc e))). omega arith)
      (above_means _ _ _ _ goes-up)

  ascend : (d e : ℕ) → d < e → e < entries c s → rank c s d < rank c s e
  ascend d zero h l = absurd (omega arith)
  ascend d (suc e) h l = ⊎_elim
      (λ (same : d ≡ e). rw same (step e l))
      (λ (less : d < e). omega (arith, ascend d e less (omega arith), step e l))
      (eq-or-lt_of_le (omega arith))

  -- no two entries at one row and column
  pub one_only : (i j d e : ℕ) → d < e → e < entries c s → is_at c s i j d ≡ true → is_at c s i j e ≡ true → ⊥
  one_only i j d e h l at-d at-e =
      omega (arith, ascend d e h l, at_place c s i j d at-d, at_place c s i j e at-e)

  -- the listed value is the sum of the values listed there
  listed-sum : (i j k : ℕ) → k ≤ entries c s → listed c s i j k ≡ total (λ e. only (is_at c s i j e) (value_of c s e)) k
  unfolding listed total
  listed-sum i j zero l = refl
  listed-sum i j (suc k) l = go (listed-sum i j k (omega arith)) (is_at c s i j k) refl
    where
      others : is_at c s i j k ≡ true → total (λ e. only (is_at c s i j e) (value_of c s e)) k ≡ 0
      others here = total-zero (λ e. only (is_at c s i j e) (value_of c s e)) k (λ e below. none e below (is_at c s i j e) refl)
        where
          none : (e : ℕ) → e < k → (b : Bool) → is_at c s i j e ≡ b → only b (value_of c s e) ≡ 0
          none e below true there = absurd (one_only i j e k below l there here)
          none e below false there = refl

      go : listed c s i j k ≡ total (λ e. only (is_at c s i j e) (value_of c s e)) k → (b : Bool) → is_at c s i j k ≡ b →
          elim b as (λ b. ℕ) [ true ↦ value_of c s k | false ↦ listed c s i j k ]
          ≡ total (λ e. only (is_at c s i j e) (value_of c s e)) k + only b (value_of c s k)
      go ih true here = omega (arith, others here)
      go ih false here = omega arith

  -- a row's coefficients with weights h, over the columns from + 1 to from + k, are its listed values with the weights of their columns
  pub row-entries : (h : ℕ → ℕ) (i from k : ℕ) →
      total (λ t. h (suc (from + t)) * listed c s i (suc (from + t)) (entries c s)) k
      ≡ total (λ e. only (eqb (row_of c s e) i) (only (within (suc from) (column_of c s e) (from + k)) (h (column_of c s e) * value_of c s e))) (entries c s)
  row-entries h i from k =
      total-same _ _ k (λ t l. ap (λ (x : ℕ). h (suc (from + t)) * x) (listed-sum i (suc (from + t)) (entries c s) (omega arith))
      ∙ sym (total-times (h (suc (from + t))) (λ e. only (is_at c s i (suc (from + t)) e) (value_of c s e)) (entries c s)))
      ∙ total_swap (λ t e. h (suc (from + t)) * only (is_at c s i (suc (from + t)) e) (value_of c s e)) k (entries c s)
      ∙ total-same _ _ (entries c s) (λ e l. entry_row e (eqb (row_of c s e) i))
    where
      moved : (e t : ℕ) (b : Bool) → h t * only b (value_of c s e) ≡ only b (h t * value_of c s e)
      moved e t true = refl
      moved e t false = omega arith

      entry_row : (e : ℕ) (b : Bool) →
          total (λ t. h (suc (from + t)) * only (b && eqb (column_of c s e) (suc (from + t))) (value_of c s e)) k
          ≡ only b (only (within (suc from) (column_of c s e) (from + k)) (h (column_of c s e) * value_of c s e))
      entry_row e true =
          total-same _ _ k (λ t l. moved e (suc (from + t)) (eqb (column_of c s e) (suc (from + t))))
          ∙ total-pick (λ j. h j * value_of c s e) (column_of c s e) from k
      entry_row e false = total-zero _ k (λ t l. omega arith)
