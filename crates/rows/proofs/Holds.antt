-- RULES 6, number 10: no refusal exactly where every row holds; else the place is a row that fails, and every lower one holds.
use mathlib.Core.List.{List}
use mathlib.Core.Path.{◌≡◌, sym, ◌∙◌, ap}
use Prim.Native.Nat.{ℕ, suc, ◌+◌, ◌-◌, ◌≤◌, ◌<◌}
use native.Mathlib.Decide.{dec_lt}
use native.Mathlib.Omega.{arith}
use borrow.Author.Tests.{eq-eqb, eqb-true}
use lib.Dec.{lit<}
use Rattle.outcome.specs.declared.Outcome.{Outcome}
use Rattle.outcome.specs.Verdict.{Accepted, Refused, outcome}
use Rattle.outcome.proofs.Verdict.{accepted-require, require-accepted, accepted-each, accepted-first, not_both, refused-first, first-same, first_longer, passes, require-refused, Proper, proper-require, proper-first}
use Rattle.algebra.proofs.Congruence.{≈_refl, ≈-product, ≈-reduced}
use Rattle.circuit.specs.Circuit.{listed_rows, rows, columns}
use Rattle.circuit.specs.WellFormed.{Formed}
use Rattle.circuit.proofs.Rows.{listed_rows_lem}
use Rattle.circuit.proofs.Totals.{total-zero}
use Rattle.circuit.proofs.Coefficients.{coef_unlisted}
use Rattle.rows.specs.Rows.{row_sum, row_sums, whole_sum, RowHolds, RowsHold, FailsFirst, row_verdict, rows_verdict, lowest_failing}
use Rattle.rows.specs.Sums.{sums_verdict, RowsRead}
use Rattle.rows.proofs.Sums.{length-sums, sum_at}

-- a row that is not listed has sums 0 over A, B and C, so it holds

unlisted_sum : {p : ℕ} {c : List ℕ} → Formed p c → (a : List ℕ) (matrix i : ℕ) → matrix < 3 → listed_rows c < i → whole_sum c a matrix i ≡ 0
unfolding row_sum
unlisted_sum {c = c} formed a matrix i l above = total-zero _ (columns c - 0)
    (λ t below. rw (coef_unlisted formed matrix l i (suc (0 + t)) above) (omega arith))

pub unlisted_holds : {p : ℕ} {c : List ℕ} → Formed p c → (a : List ℕ) (i : ℕ) → listed_rows c < i → RowHolds p c a i
unlisted_holds {p} formed a i above = record {
  equal = rw (
    unlisted_sum formed a 0 i (omega arith) above,
    unlisted_sum formed a 1 i (omega arith) above,
    unlisted_sum formed a 2 i (omega arith) above,
  ) (≈_refl p 0);
}

module _ (p : ℕ) (c a : List ℕ) where
  abbrev each : ℕ → Outcome
  each i = row_verdict p c a (suc i)

  row-accepted : (i : ℕ) → RowHolds p c a i → Accepted (row_verdict p c a i)
  unfolding row_verdict
  row-accepted i h = accepted-require 10 i (eq-eqb _ _ h.equal.same)

  accepted-row : (i : ℕ) → Accepted (row_verdict p c a i) → RowHolds p c a i
  unfolding row_verdict
  accepted-row i h = record { equal = record { same = eqb-true _ _ (require-accepted _ 10 i (lit< tt) h) } }

  -- rows are counted from 1, the verdicts of a scan from 0
  from_one : (i k : ℕ) → 1 ≤ i → i ≤ k → ((d : ℕ) → d < k → RowHolds p c a (suc d)) → RowHolds p c a i
  from_one i k low high h = let up : i ≡ suc (i - 1) = omega arith in rw up (h (i - 1) (omega arith))

  pub holds-accepted : RowsHold p c a → Accepted (rows_verdict p c a)
  unfolding rows_verdict
  holds-accepted h = accepted-first each (listed_rows c) (λ i l. row-accepted (suc i) (h.at_row (suc i) (omega arith) l))

  pub accepted-holds : Accepted (rows_verdict p c a) → RowsHold p c a
  unfolding rows_verdict
  accepted-holds h = record {
    at_row = λ i low high. from_one i (listed_rows c) low high (λ d l. accepted-row (suc d) (accepted-each each (listed_rows c) h d l));
  }

  row-fails : (i : ℕ) → Refused (row_verdict p c a i) → row_verdict p c a i ≡ outcome 10 i
  unfolding row_verdict
  row-fails i r = require-refused _ 10 i r

  -- a refusal names a row that fails, and every lower row holds
  pub lowest_fails : Refused (rows_verdict p c a) → (rows_verdict p c a ≡ outcome 10 (lowest_failing p c a)) × FailsFirst p c a (lowest_failing p c a)
  unfolding rows_verdict
  lowest_fails r =
      let (i, l, found, refused, lower) = refused-first each (listed_rows c) r in
      let named = found ∙ row-fails (suc i) refused in
      let place : lowest_failing p c a ≡ suc i = ap (λ (o : Outcome). o.place) named in (
        named ∙ ap (outcome 10) (sym place),
        rw place (record {
          row = record { at_least = omega arith; at_most = l };
          fails = λ h. not_both (row-accepted (suc i) h) refused;
          lower = λ j low below. from_one j i low (omega arith) (λ d k. accepted-row (suc d) (lower d k));
        }),
      )

  pub proper-rows : Proper (rows_verdict p c a)
  unfolding rows_verdict row_verdict
  proper-rows = proper-first each (listed_rows c) (λ i l. proper-require _ _ _ (lit< tt))

-- so where the listed rows hold, every row does
pub every-row : {p : ℕ} {c : List ℕ} → Formed p c → (a : List ℕ) → RowsHold p c a → (i : ℕ) → RowHolds p c a (suc i)
every-row {c = c} formed a h i = elim (dec_lt i (listed_rows c)) [
  | yes below ↦ h.at_row (suc i) (omega arith) (omega arith)
  | no above ↦ unlisted_holds formed a (suc i) (omega arith)
]

-- the verdict over the lists of sums is the one over the rows
pub sums-rows : {p : ℕ} {c : List ℕ} → Formed p c → (a : List ℕ) →
    sums_verdict p (row_sums p c a 0 0 (columns c)) (row_sums p c a 1 0 (columns c)) (row_sums p c a 2 0 (columns c)) ≡ rows_verdict p c a
unfolding sums_verdict rows_verdict row_verdict
sums-rows {p} {c} formed a =
    rw (length-sums p c a 0 0 (columns c)) (first-same _ _ (rows c) (λ i l.
    rw (
      sum_at p c a 0 0 (columns c) i l,
      sum_at p c a 1 0 (columns c) i l,
      sum_at p c a 2 0 (columns c) i l,
      (≈-product (≈-reduced p (whole_sum c a 0 (suc i))) (≈-reduced p (whole_sum c a 1 (suc i)))).same,
    )))
    ∙ first_longer (each p c a) (listed_rows c) (rows c) (listed_rows_lem c) (λ i l. proper-require _ _ _ (lit< tt))
    (λ i from to. passes 10 (suc i) (eq-eqb _ _ (unlisted_holds formed a (suc i) (omega arith)).equal.same))

-- any two results that the contract of rows_verdict admits are equal
pub one_result : {p : ℕ} {c w a b d a' b' d' : List ℕ} {r r' : Outcome} → RowsRead p c w a b d r → RowsRead p c w a' b' d' r' →
    (a ≡ a') × (b ≡ b') × (d ≡ d') × (r ≡ r')
one_result h k = (h.sums.first ∙ sym k.sums.first, h.sums.second ∙ sym k.sums.second, h.sums.third ∙ sym k.sums.third, h.outcome ∙ sym k.outcome)
