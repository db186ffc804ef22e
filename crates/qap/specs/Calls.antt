-- The contract of each call of the rules: number, place, returned words and the final words of a lent buffer.
-- "Except for 0, output buffers keep their words, and answers held in a result are all 0."
use Rattle.std.specs.Prelude.{◌≡◌, List, ℕ, ◌*◌, ◌-◌, ◌≤◌, length, take, drop}
use Rattle.outcome.specs.declared.Outcome.{Outcome}
use Rattle.outcome.specs.Verdict.{outcome, fine, Accepted, Refused}
use Rattle.algebra.specs.Points.{target}
use Rattle.circuit.specs.Circuit.{columns}
use Rattle.qap.specs.Setting.{Setting, points_of}
use Rattle.qap.specs.Polynomials.{Column, IsQuotient}
use Rattle.qap.specs.Answers.{IsAnswers, AnswersAgree, CandidateDivides}
use Rattle.qap.specs.Refusals.{target_verdict, column_verdict, columns_verdict, quotient_verdict, answers_verdict, check_answers_verdict, check_division_verdict}
use Rattle.qap.specs.declared.Blinders.{Blinders}
use Rattle.qap.specs.declared.FourAnswers.{FourAnswers}

-- a call that writes a lent buffer: the verdict's number and place; done, the new words are right; refused, they are the old ones
pub record Filled (verdict : Outcome) (Right : List ℕ → Type 0) (old new : List ℕ) (o : Outcome) : Type 0 where
  pub number_and_place : o ≡ verdict
  pub done : Accepted verdict → Right new
  pub kept : Refused verdict → new ≡ old

-- a check: the verdict's refusal; else 0 exactly where the equality holds, and 13 where it is false
pub record Judged (verdict : Outcome) (Equal : Type 0) (o : Outcome) : Type 0 where
  pub refused : Refused verdict → o ≡ verdict
  pub accepts : Accepted verdict → Equal → o ≡ fine
  pub rejects : Accepted verdict → (Equal → ⊥) → o ≡ outcome 13 0

-- target: takes m alone
abbrev pub TargetCall : Setting → ℕ → List ℕ → List ℕ → Outcome → Type 0
TargetCall S m old new o = Filled (target_verdict S m (length old)) (λ f. f ≡ target S.p (S.points m)) old new o

-- one column
abbrev pub ColumnCall : Setting → List ℕ → ℕ → ℕ → List ℕ → List ℕ → Outcome → Type 0
ColumnCall S c matrix j old new o = Filled (column_verdict S c matrix j (length old)) (Column S c matrix j) old new o

-- all columns of a matrix: column j in words (j − 1)·m up to j·m − 1
pub record AllColumns (S : Setting) (c : List ℕ) (matrix : ℕ) (f : List ℕ) : Type 0 where
  pub size : length f ≡ columns c * length (points_of S c)
  pub column : (j : ℕ) → 1 ≤ j → j ≤ columns c → Column S c matrix j (take (length (points_of S c)) (drop ((j - 1) * length (points_of S c)) f))

abbrev pub ColumnsCall : Setting → List ℕ → ℕ → List ℕ → List ℕ → Outcome → Type 0
ColumnsCall S c matrix old new o = Filled (columns_verdict S c matrix (length old)) (AllColumns S c matrix) old new o

abbrev pub QuotientCall : Setting → List ℕ → List ℕ → Blinders → List ℕ → List ℕ → Outcome → Type 0
QuotientCall S c a d old new o = Filled (quotient_verdict S c a d (length old)) (IsQuotient S c a d) old new o

-- all four answers 0
abbrev pub no_answers : FourAnswers
no_answers = record { first = 0; second = 0; third = 0; fourth = 0 }

pub record AnswersCall (S : Setting) (c a : List ℕ) (d : Blinders) (s : ℕ) (o : Outcome) (r : FourAnswers) : Type 0 where
  pub number_and_place : o ≡ answers_verdict S c a d s
  pub done : Accepted (answers_verdict S c a d s) → IsAnswers S c a d s r
  pub none : Refused (answers_verdict S c a d s) → r ≡ no_answers

abbrev pub CheckAnswersCall : Setting → List ℕ → List ℕ → ℕ → FourAnswers → Outcome → Type 0
CheckAnswersCall S c b s r o = Judged (check_answers_verdict S c b s r) (AnswersAgree S c b s r) o

abbrev pub CheckDivisionCall : Setting → List ℕ → List ℕ → Blinders → List ℕ → Outcome → Type 0
CheckDivisionCall S c a d h o = Judged (check_division_verdict S c a d h) (CandidateDivides S c a d h) o
