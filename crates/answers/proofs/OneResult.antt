-- The contract of `answer_rows` admits one result: any two are equal. That of `answers` is qap's `answers_determined`. RULES 10.
use mathlib.Core.Path.{◌≡◌, sym, ◌∙◌}
use mathlib.Core.List.{List}
use mathlib.Core.Logic.{⊎_elim}
use Prim.Native.Nat.{ℕ}
use Rattle.outcome.specs.declared.Outcome.{Outcome}
use Rattle.outcome.specs.Verdict.{Accepted}
use Rattle.outcome.proofs.Verdict.{accepted_or_refused}
use Rattle.rows.specs.Rows.{rows_verdict}
use Rattle.qap.specs.declared.Blinders.{Blinders}
use Rattle.qap.specs.declared.FourAnswers.{FourAnswers}
use Rattle.qap.specs.Refusals.{ready_verdict}
use Rattle.circuit.proofs.Formed.{circuit-formed}
use Rattle.qap.proofs.Standard.{row-sound}
use Rattle.qap.proofs.Settings.{ready}
use Rattle.qap.proofs.Determined.{answers_unique}
use Rattle.algebra.specs.Prime.{FieldPrime}
use Rattle.qap.specs.Setting.{row_setting}
use Rattle.answers.specs.RowsAnswered.{RowsAnswered}

module _ {p : ℕ} (field : FieldPrime p) where
  pub answer_rows_determined : (c a : List ℕ) (d : Blinders) (s : ℕ) → Accepted (ready_verdict (row_setting p) c a d) → {o o' : Outcome} {r r' : FourAnswers} →
      RowsAnswered p c a d s o r → RowsAnswered p c a d s o' r' → (o ≡ o') × (r ≡ r')
  answer_rows_determined c a d s accepted x y = (
    x.number_and_place ∙ sym y.number_and_place,
    ⊎_elim (λ h. answers_unique (row-sound field) (circuit-formed c (ready (row_setting p) c a d accepted).circuit).formed a d s (x.done h) (y.done h))
        (λ h. x.none h ∙ sym (y.none h)) (accepted_or_refused (rows_verdict p c a)),
  )
