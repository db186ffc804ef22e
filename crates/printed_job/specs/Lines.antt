-- What the job program prints for the bytes of its file. RULES 7.
use Rattle.std.specs.Prelude.{List, [], ◌∷◌, ◌++◌, ◌≡◌, ℕ, length}
use Rattle.outcome.specs.declared.Outcome.{Outcome}
use Rattle.outcome.specs.Verdict.{Accepted, Refused, ◌and_then◌}
use Rattle.packing.specs.Packing.{unpacked}
use Rattle.text.specs.Text.{line}
use Rattle.circuit.specs.Circuit.{leading}
use Rattle.assignment.specs.Assignment.{public_section}
use Rattle.qap.specs.declared.Blinders.{Blinders}
use Rattle.qap.specs.declared.FourAnswers.{FourAnswers}
use Rattle.qap.specs.Polynomials.{target_of, IsQuotient}
use Rattle.qap.specs.Answers.{IsAnswers}
use Rattle.qap.specs.Refusals.{answer_words}
use Rattle.qap.specs.Calls.{CheckAnswersCall}
use Rattle.job_file.specs.File.{assignment_of, blinders_of, point_of, size_verdict, job_verdict}
use Rattle.field.specs.Field.{p}
use Rattle.qap.specs.Setting.{standard}

-- 14 for the length first, then what the words say
unfoldable pub program_verdict : List ℕ → Outcome
program_verdict bytes = size_verdict (length bytes) and_then job_verdict (unpacked bytes)

-- words of the longest target and quotient: one more than the most rows, RULES 4
abbrev pub most_coefficients : ℕ
most_coefficients = 257

-- number and place; target; quotient; the four answers; the answer check's number
abbrev pub five_lines : List ℕ → List ℕ → FourAnswers → ℕ → List ℕ
five_lines z h r number =
    line (0 ∷ 0 ∷ [])
    ++ line z
    ++ line h
    ++ line (answer_words r)
    ++ line (number ∷ [])

-- for a circuit, an assignment, blinders and a point
pub record FiveOf (c a : List ℕ) (d : Blinders) (s : ℕ) (text : List ℕ) : Type 0 where
  pub quotient : List ℕ
  pub answers : FourAnswers
  pub check : Outcome
  pub is_quotient : IsQuotient standard c a d quotient
  pub are_answers : IsAnswers standard c a d s answers
  pub is_check : CheckAnswersCall standard c (public_section p c a) s answers check
  pub lines : text ≡ five_lines (target_of standard c) quotient answers check.number

-- for a file's words
abbrev pub FiveLines : List ℕ → List ℕ → Type 0
FiveLines w text = FiveOf (leading w) (assignment_of w) (blinders_of w) (point_of w) text

-- if the first number isn't 0, only the first line is printed
pub record Reports (verdict : Outcome) (Done : List ℕ → Type 0) (text : List ℕ) : Type 0 where
  pub done : Accepted verdict → Done text
  pub refused : Refused verdict → text ≡ line (verdict.number ∷ verdict.place ∷ [])

-- the text of a file's bytes
abbrev pub Prints : List ℕ → List ℕ → Type 0
Prints bytes = Reports (program_verdict bytes) (FiveLines (unpacked bytes))
