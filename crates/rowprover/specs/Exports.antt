-- The two exported functions on byte slices: what each returns and every byte it leaves.
-- RULES 8; words are least significant byte first (`unpacked`, `packed`).
use Rattle.std.specs.Prelude.{List, ◌≡◌, ℕ, ◌+◌, ◌*◌, eqb, length}
use Rattle.outcome.specs.declared.Outcome.{Outcome}
use Rattle.outcome.specs.Verdict.{require, ◌and_then◌}
use Rattle.packing.specs.Packing.{unpacked, packed}
use Rattle.circuit.specs.Circuit.{word, leading}
use Rattle.rows.specs.Rows.{rows_verdict}
use Rattle.qap.specs.declared.Blinders.{Blinders}
use Rattle.qap.specs.declared.FourAnswers.{FourAnswers}
use Rattle.qap.specs.Answers.{IsAnswers, AnswersAgree}
use Rattle.qap.specs.Refusals.{answer_words, length_verdict, check_answers_verdict}
use Rattle.qap.specs.Calls.{Filled, Judged, CheckAnswersCall}
use Rattle.job_file.specs.File.{assignment_of, blinders_of, point_of, size_verdict, file_verdict}
use Rattle.field.specs.Field.{p}
use Rattle.qap.specs.Setting.{standard}

-- bytes of the four answers
abbrev pub answers_bytes : ℕ
answers_bytes = 16

-- bytes of a query: the point, then the four answers
abbrev pub query_bytes : ℕ
query_bytes = 20

-- bytes of the longest public section: 256 values and their count
abbrev pub most_section_bytes : ℕ
most_section_bytes = 1028

-- one 64-bit integer: 256 times the place plus the number
abbrev pub integer : Outcome → ℕ
integer o = 256 * o.place + o.number

-- the answers

-- the four answers as 16 bytes
pub record AnswerBytes (c a : List ℕ) (d : Blinders) (s : ℕ) (bytes : List ℕ) : Type 0 where
  pub answers : FourAnswers
  pub are_answers : IsAnswers standard c a d s answers
  pub are_bytes : bytes ≡ packed (answer_words answers)

abbrev pub JobBytes : List ℕ → List ℕ → Type 0
JobBytes w bytes = AnswerBytes (leading w) (assignment_of w) (blinders_of w) (point_of w) bytes

-- what the words of a job say, with 8 (place 16) between 11 and 10
unfoldable pub words_then_size : List ℕ → ℕ → Outcome
words_then_size w size = file_verdict w and_then length_verdict size answers_bytes and_then rows_verdict p (leading w) (assignment_of w)

-- answers refuses as the program does: 14 for the length first
unfoldable pub answers_bytes_verdict : List ℕ → ℕ → Outcome
answers_bytes_verdict job size = size_verdict (length job) and_then words_then_size (unpacked job) size

-- the lent bytes past all checks but 10, from a job's words, and from its bytes

abbrev pub RowsFilled : List ℕ → List ℕ → Blinders → ℕ → List ℕ → List ℕ → Outcome → Type 0
RowsFilled c a d s old new o = Filled (rows_verdict p c a) (AnswerBytes c a d s) old new o

abbrev pub WordsFilled : List ℕ → List ℕ → List ℕ → Outcome → Type 0
WordsFilled w old new o = Filled (words_then_size w (length old)) (JobBytes w) old new o

abbrev pub JobFilled : List ℕ → List ℕ → List ℕ → Outcome → Type 0
JobFilled job old new o = Filled (answers_bytes_verdict job (length old)) (JobBytes (unpacked job)) old new o

pub record AnswersExport (job old new : List ℕ) (result : ℕ) : Type 0 where
  pub outcome : Outcome
  pub filled : JobFilled job old new outcome
  pub returned : result ≡ integer outcome

-- the check

abbrev pub query_point : List ℕ → ℕ
query_point w = word w 0

abbrev pub query_answers : List ℕ → FourAnswers
query_answers w = record { first = word w 1; second = word w 2; third = word w 3; fourth = word w 4 }

-- the word call, on the words of a query
abbrev pub CheckWords : List ℕ → List ℕ → List ℕ → Outcome → Type 0
CheckWords c b w o = CheckAnswersCall standard c b (query_point w) (query_answers w) o

-- 14 if one of the first two is above 37,944 bytes or no multiple of 4, or the last is not 20
unfoldable pub sizes_verdict : ℕ → ℕ → ℕ → Outcome
sizes_verdict circuit section query =
    size_verdict circuit
    and_then size_verdict section
    and_then require (eqb query query_bytes) 14 0

-- 14 first, then as the word call
unfoldable pub check_bytes_verdict : List ℕ → List ℕ → List ℕ → Outcome
check_bytes_verdict circuit section query =
    sizes_verdict (length circuit) (length section) (length query)
    and_then check_answers_verdict standard (unpacked circuit) (unpacked section) (query_point (unpacked query)) (query_answers (unpacked query))

abbrev pub CheckBytes : List ℕ → List ℕ → List ℕ → Outcome → Type 0
CheckBytes circuit section query o = Judged (check_bytes_verdict circuit section query)
    (AnswersAgree standard (unpacked circuit) (unpacked section) (query_point (unpacked query)) (query_answers (unpacked query))) o

pub record CheckExport (circuit section query : List ℕ) (result : ℕ) : Type 0 where
  pub outcome : Outcome
  pub judged : CheckBytes circuit section query outcome
  pub returned : result ≡ integer outcome
