-- Number and place of a verdict, with answers or with none. RULES 5.
use mathlib.Core.List.{List}
use mathlib.Core.Path.{◌≡◌}
use Prim.Native.Nat.{ℕ, ◌<◌}
use Rattle.outcome.specs.declared.Outcome.{Outcome}
use Rattle.outcome.specs.Verdict.{fine, Accepted, Refused}
use Rattle.outcome.proofs.Verdict.{accepted-fine, not_both}
use Rattle.rows.specs.Rows.{rows_verdict}
use Rattle.qap.specs.declared.Blinders.{Blinders}
use Rattle.qap.specs.declared.FourAnswers.{FourAnswers}
use Rattle.qap.specs.Refusals.{answers_verdict}
use Rattle.qap.specs.Answers.{IsAnswers}
use Rattle.qap.specs.Calls.{no_answers, AnswersCall}
use Rattle.qap.specs.Setting.{Setting, row_setting}
use Rattle.answers.specs.RowsAnswered.{RowsAnswered}

module _ {p : ℕ} {c a : List ℕ} {d : Blinders} {s : ℕ} {r : FourAnswers} where
  pub rows-refused : {o : Outcome} → o ≡ rows_verdict p c a → 0 < o.number → r ≡ no_answers → RowsAnswered p c a d s o r
  rows-refused {o} e l empty =
      let refused : Refused (rows_verdict p c a) = record { is_positive = rw (← e) l } in
      record { number_and_place = e; done = λ h. absurd (not_both h refused); none = λ h. empty }

  pub rows_answered : fine ≡ rows_verdict p c a → IsAnswers (row_setting p) c a d s r → RowsAnswered p c a d s fine r
  rows_answered e are =
      let accepted : Accepted (rows_verdict p c a) = rw (← e) accepted-fine in
      record { number_and_place = e; done = λ h. are; none = λ h. absurd (not_both accepted h) }

module _ {S : Setting} {c a : List ℕ} {d : Blinders} {s : ℕ} {r : FourAnswers} where
  pub call-refused : {o : Outcome} → o ≡ answers_verdict S c a d s → 0 < o.number → r ≡ no_answers → AnswersCall S c a d s o r
  call-refused {o} e l empty =
      let refused : Refused (answers_verdict S c a d s) = record { is_positive = rw (← e) l } in
      record { number_and_place = e; done = λ h. absurd (not_both h refused); none = λ h. empty }
