-- What the answers call gives once the checks before 10 have passed, and what it works from once 10 has too. RULES 5.
use Rattle.std.specs.Prelude.{Result, Ok, Err, ◌≡◌, List, ℕ}
use Rattle.outcome.specs.declared.Outcome.{Outcome}
use Rattle.outcome.specs.declared.Refusal.{Refusal}
use Rattle.outcome.specs.Verdict.{Accepted, Refused}
use Rattle.rows.specs.Rows.{rows_verdict}
use Rattle.rows.specs.Sums.{WholeSums}
use Rattle.qap.specs.declared.Blinders.{Blinders}
use Rattle.qap.specs.declared.FourAnswers.{FourAnswers}
use Rattle.qap.specs.Answers.{IsAnswers}
use Rattle.qap.specs.Refusals.{answers_verdict}
use Rattle.qap.specs.Calls.{no_answers}
use Rattle.qap.specs.Setting.{row_setting}

-- the answers that a result holds: all 0 where it refuses
abbrev pub answers_of : Result FourAnswers Refusal → FourAnswers
answers_of (Ok r) = r
answers_of (Err refusal) = no_answers

pub record RowsAnswered (p : ℕ) (c a : List ℕ) (d : Blinders) (s : ℕ) (o : Outcome) (r : FourAnswers) : Type 0 where
  pub number_and_place : o ≡ rows_verdict p c a
  pub done : Accepted (rows_verdict p c a) → IsAnswers (row_setting p) c a d s r
  pub none : Refused (rows_verdict p c a) → r ≡ no_answers

-- all checks passed, and the row sums over all columns are at hand
pub record AnswersGiven (p : ℕ) (c a : List ℕ) (d : Blinders) (s : ℕ) (sums-a sums-b sums-c : List ℕ) : Type 0 where
  pub accepted : Accepted (answers_verdict (row_setting p) c a d s)
  pub sums : WholeSums p c a sums-a sums-b sums-c
