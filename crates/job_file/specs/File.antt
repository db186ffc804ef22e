-- The job file's words: circuit, assignment, count 3 and three blinders, count 1 and the point, and which number and place they get.
-- RULES 7.
use Rattle.std.specs.Prelude.{List, ℕ, ◌+◌, ◌%◌, leb, eqb, length, take, drop}
use Rattle.outcome.specs.declared.Outcome.{Outcome}
use Rattle.outcome.specs.Verdict.{require, ◌and_then◌}
use Rattle.circuit.specs.Circuit.{word, columns, ending, leading}
use Rattle.circuit.specs.Reader.{prefix_verdict}
use Rattle.assignment.specs.Assignment.{words_verdict, assignment_verdict}
use Rattle.rows.specs.Rows.{rows_verdict}
use Rattle.qap.specs.declared.Blinders.{Blinders}
use Rattle.qap.specs.Polynomials.{blinder_words}
use Rattle.qap.specs.Refusals.{point_verdict}
use Rattle.field.specs.Field.{p}
use Rattle.qap.specs.Setting.{standard}

-- how a file's words are split: the circuit at their front is `leading w`

-- the n + 2 words after it, or as many as there are
abbrev pub assignment_of : List ℕ → List ℕ
assignment_of w = take (columns (leading w) + 2) (drop (ending w) w)

-- what remains: count 3, three blinders, count 1, the point
abbrev pub trailer : List ℕ → List ℕ
trailer w = drop (columns (leading w) + 2) (drop (ending w) w)

abbrev pub blinders_of : List ℕ → Blinders
blinders_of w = record { first = word (trailer w) 1; second = word (trailer w) 2; third = word (trailer w) 3 }

abbrev pub point_of : List ℕ → ℕ
point_of w = word (trailer w) 5

-- how long a file can be

abbrev pub most_bytes : ℕ
most_bytes = 37944

abbrev pub most_words : ℕ
most_words = 9486

-- 14: more bytes, or no multiple of 4
unfoldable pub size_verdict : ℕ → Outcome
size_verdict size = require (leb size most_bytes) 14 0 and_then require (eqb (size % 4) 0) 14 0

-- 14: what remains is not exactly 6 words with those two counts
unfoldable pub trailer_verdict : List ℕ → Outcome
trailer_verdict t =
    require (eqb (length t) 6) 14 0
    and_then require (eqb (word t 0) 3) 14 0
    and_then require (eqb (word t 4) 1) 14 0

-- the circuit, where too few words is 1; the assignment, where fewer than n + 2 words left is 6; 14; then 12, 11
unfoldable pub file_verdict : List ℕ → Outcome
file_verdict w =
    prefix_verdict p w
    and_then assignment_verdict p (leading w) (assignment_of w)
    and_then trailer_verdict (trailer w)
    and_then words_verdict p 12 0 (blinder_words (blinders_of w))
    and_then point_verdict standard (leading w) (point_of w)

-- and 10 last
unfoldable pub job_verdict : List ℕ → Outcome
job_verdict w = file_verdict w and_then rows_verdict p (leading w) (assignment_of w)
