-- Past all other refusals a quotient is given exactly where every row holds; else 10 names the lowest row that fails.
-- Demand 2, over the quotient call's contract. RULES 6.
use mathlib.Core.Path.{◌≡◌, sym, ◌∙◌}
use mathlib.Core.List.{List}
use mathlib.Core.Logic.{⊎_elim}
use Prim.Native.Nat.{ℕ}
use lib.ListN.{length}
use Rattle.outcome.specs.declared.Outcome.{Outcome}
use Rattle.outcome.specs.Verdict.{outcome, fine, Accepted, Refused}
use Rattle.outcome.proofs.Verdict.{goes_on, accepted-fine, accepted_or_refused}
use Rattle.rows.specs.Rows.{RowsHold, FailsFirst, rows_verdict, lowest_failing}
use Rattle.rows.proofs.Holds.{holds-accepted, accepted-holds, lowest_fails, proper-rows}
use Rattle.qap.specs.Setting.{Setting}
use Rattle.qap.specs.Polynomials.{quotient_length, IsQuotient}
use Rattle.qap.specs.Refusals.{ready_verdict, length_verdict, quotient_verdict}
use Rattle.qap.specs.Calls.{QuotientCall}
use Rattle.qap.specs.declared.Blinders.{Blinders}

module _ {S : Setting} (c a : List ℕ) (d : Blinders) {old new : List ℕ} {o : Outcome} (call : QuotientCall S c a d old new o)
    (ready : Accepted (ready_verdict S c a d)) (exact : Accepted (length_verdict (length old) (quotient_length S c))) where
  -- the rows decide
  by_rows : quotient_verdict S c a d (length old) ≡ rows_verdict S.p c a
  unfolding quotient_verdict
  by_rows = goes_on _ ready ∙ goes_on _ exact

  number : o ≡ rows_verdict S.p c a
  number = call.number_and_place ∙ by_rows

  pub holds-given : RowsHold S.p c a → (o ≡ fine) × IsQuotient S c a d new
  holds-given hold =
      let accepted = holds-accepted S.p c a hold in
      (number ∙ (proper-rows S.p c a).fine_if_accepted accepted, call.done (rw by_rows accepted))

  pub given_holds : o ≡ fine → RowsHold S.p c a
  given_holds e = accepted-holds S.p c a (rw (sym number ∙ e) accepted-fine)

  pub fails-named : (RowsHold S.p c a → ⊥) → (o ≡ outcome 10 (lowest_failing S.p c a)) × FailsFirst S.p c a (lowest_failing S.p c a) × (new ≡ old)
  fails-named broken = ⊎_elim
      (λ (good : Accepted (rows_verdict S.p c a)). absurd (broken (accepted-holds S.p c a good)))
      (λ (fails : Refused (rows_verdict S.p c a)).
      let (named, lowest) = lowest_fails S.p c a fails in
      (number ∙ named, lowest, call.kept (rw by_rows fails)))
      (accepted_or_refused (rows_verdict S.p c a))
