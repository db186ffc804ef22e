-- Sums over the indices below a number, beside those laws that algebra has: two sums change places, and one index is picked
-- out; and tables of values. For the sums over columns of RULES 4.
use mathlib.Core.Bool.{Bool, true, false}
use mathlib.Core.Logic.{⊎_elim}
use mathlib.Core.Path.{◌≡◌, refl, sym, ◌∙◌, ap}
use Prim.Native.Nat.{ℕ, zero, suc, ◌+◌, ◌≤◌, ◌<◌}
use native.Mathlib.Nat.{le-suc_iff}
use native.Mathlib.Omega.{arith}
use borrow.Author.Tests.{eq-eqb, ne_eqb, leb-true, leb-false}
use lib.Dec.{eqb, leb}
use lib.ListN.{length, get_or}
use Rattle.outcome.specs.Verdict.{within}
use Rattle.algebra.specs.Combination.{total}
use Rattle.circuit.specs.Totals.{table, only}

pub total-same : (f g : ℕ → ℕ) (k : ℕ) → ((i : ℕ) → i < k → f i ≡ g i) → total f k ≡ total g k
unfolding total
total-same f g zero h = refl
total-same f g (suc k) h = omega (arith, total-same f g k (λ i l. h i (omega arith)), h k (omega arith))

pub total-zero : (f : ℕ → ℕ) (k : ℕ) → ((i : ℕ) → i < k → f i ≡ 0) → total f k ≡ 0
unfolding total
total-zero f zero h = refl
total-zero f (suc k) h = omega (arith, total-zero f k (λ i l. h i (omega arith)), h k (omega arith))

pub total-plus : (f g : ℕ → ℕ) (k : ℕ) → total (λ i. f i + g i) k ≡ total f k + total g k
unfolding total
total-plus f g zero = refl
total-plus f g (suc k) = omega (arith, total-plus f g k)

pub total_swap : (f : ℕ → ℕ → ℕ) (m n : ℕ) → total (λ i. total (f i) n) m ≡ total (λ j. total (λ i. f i j) m) n
unfolding total
total_swap f zero n = sym (total-zero (λ j. 0) n (λ j l. refl))
total_swap f (suc m) n = ap (λ (x : ℕ). x + total (f m) n) (total_swap f m n) ∙ sym (total-plus (λ j. total (λ i. f i j) m) (f m) n)

-- the one index j among from + 1, .., from + k

picked : (f : ℕ → ℕ) (j from k : ℕ) → from < j → j ≤ from + k →
    total (λ t. only (eqb j (suc (from + t))) (f (suc (from + t)))) k ≡ f j
unfolding total
picked f j from zero h l = absurd (omega arith)
picked f j from (suc k) h l = ⊎_elim
    (λ (below : j ≤ from + k). rw (ne_eqb j (suc (from + k)) (λ e. omega arith)) (omega (arith, picked f j from k h below)))
    (λ (here : j ≡ suc (from + k)).
    let none = total-zero (λ t. only (eqb j (suc (from + t))) (f (suc (from + t)))) k
    (λ t lt. rw (ne_eqb j (suc (from + t)) (λ e. omega arith))) in
    rw (eq-eqb j (suc (from + k)) here, none, ← here) (omega arith))
    (le-suc_iff.0 (omega arith))

pub total-pick : (f : ℕ → ℕ) (j from k : ℕ) →
    total (λ t. only (eqb j (suc (from + t))) (f (suc (from + t)))) k ≡ only (within (suc from) j (from + k)) (f j)
total-pick f j from k = go (leb (suc from) j) refl (leb j (from + k)) refl
  where
    none : ((t : ℕ) → t < k → j ≡ suc (from + t) → ⊥) → total (λ t. only (eqb j (suc (from + t))) (f (suc (from + t)))) k ≡ 0
    none h = total-zero (λ t. only (eqb j (suc (from + t))) (f (suc (from + t)))) k (λ t l. rw (ne_eqb j (suc (from + t)) (h t l)))

    go : (low : Bool) → leb (suc from) j ≡ low → (high : Bool) → leb j (from + k) ≡ high →
        total (λ t. only (eqb j (suc (from + t))) (f (suc (from + t)))) k ≡ only (within (suc from) j (from + k)) (f j)
    go true e true d = rw (e, d) (picked f j from k (leb-true _ _ e) (leb-true _ _ d))
    go true e false d = let above = leb-false j (from + k) d in rw (e, d) (none (λ t l q. omega arith))
    go false e high d = let below = leb-false (suc from) j e in rw e (none (λ t l q. omega arith))

pub length-table : (f : ℕ → ℕ) (k : ℕ) → length (table f k) ≡ k
unfolding table
length-table f zero = refl
length-table f (suc k) = ap suc (length-table (λ i. f (suc i)) k)

pub table_at : (f : ℕ → ℕ) (k i : ℕ) → i < k → get_or (table f k) i 0 ≡ f i
unfolding table
table_at f zero i l = absurd (omega arith)
table_at f (suc k) zero l = refl
table_at f (suc k) (suc i) l = table_at (λ i. f (suc i)) k i (omega arith)
