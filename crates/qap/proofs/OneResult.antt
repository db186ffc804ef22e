-- Each call's contract determines its result: any two that it admits are equal. Columns have their own file.
-- RULES 10.
use mathlib.Core.Path.{◌≡◌, sym, ◌∙◌}
use mathlib.Core.List.{List}
use mathlib.Core.Logic.{⊎_elim}
use Prim.Native.Nat.{ℕ}
use lib.ListN.{length}
use Rattle.outcome.specs.declared.Outcome.{Outcome}
use Rattle.outcome.proofs.Verdict.{accepted_or_refused}
use Rattle.circuit.proofs.Formed.{circuit-formed}
use Rattle.qap.specs.Setting.{Setting, Sound}
use Rattle.qap.specs.Refusals.{answers_verdict}
use Rattle.qap.specs.Calls.{TargetCall, QuotientCall, AnswersCall, CheckAnswersCall, CheckDivisionCall}
use Rattle.qap.specs.declared.Blinders.{Blinders}
use Rattle.qap.specs.declared.FourAnswers.{FourAnswers}
use Rattle.qap.proofs.Settings.{quotient_ready, answers_ready}
use Rattle.qap.proofs.Quotients.{quotient_unique}
use Rattle.qap.proofs.Determined.{filled-once, judged-once, answers_unique}

module _ {S : Setting} (sound : Sound S) where
  pub target_determined : (m : ℕ) {old new new' : List ℕ} {o o' : Outcome} → TargetCall S m old new o → TargetCall S m old new' o' → (o ≡ o') × (new ≡ new')
  target_determined m = filled-once (λ h f g e e'. e ∙ sym e')

  pub quotient_determined : (c a : List ℕ) (d : Blinders) {old new new' : List ℕ} {o o' : Outcome} →
      QuotientCall S c a d old new o → QuotientCall S c a d old new' o' → (o ≡ o') × (new ≡ new')
  quotient_determined c a d {old} = filled-once
      (λ h f g. quotient_unique sound (circuit-formed c (quotient_ready S c a d (length old) h).given.circuit).formed a d)

  pub answers_determined : (c a : List ℕ) (d : Blinders) (s : ℕ) {r r' : FourAnswers} {o o' : Outcome} →
      AnswersCall S c a d s o r → AnswersCall S c a d s o' r' → (o ≡ o') × (r ≡ r')
  answers_determined c a d s x y = (
    x.number_and_place ∙ sym y.number_and_place,
    ⊎_elim (λ h. answers_unique sound (circuit-formed c (answers_ready S c a d s h).given.circuit).formed a d s (x.done h) (y.done h))
        (λ h. x.none h ∙ sym (y.none h)) (accepted_or_refused (answers_verdict S c a d s)),
  )

  pub check_answers_determined : (c b : List ℕ) (s : ℕ) (r : FourAnswers) {o o' : Outcome} →
      CheckAnswersCall S c b s r o → CheckAnswersCall S c b s r o' → o ≡ o'
  check_answers_determined c b s r = judged-once

  pub check_division_determined : (c a : List ℕ) (d : Blinders) (h : List ℕ) {o o' : Outcome} →
      CheckDivisionCall S c a d h o → CheckDivisionCall S c a d h o' → o ≡ o'
  check_division_determined c a d h = judged-once
