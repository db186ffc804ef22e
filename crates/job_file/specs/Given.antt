-- What a job gives beside its circuit, judged as the code reads it: the assignment, and what remains after it.
-- RULES 7.
-- proofs/FileLaws.antt shows that `file_verdict` is made of these.
use Rattle.std.specs.Prelude.{List, ℕ, ◌+◌, take, drop}
use Rattle.outcome.specs.declared.Outcome.{Outcome}
use Rattle.outcome.specs.Verdict.{◌and_then◌}
use Rattle.circuit.specs.Circuit.{word, columns}
use Rattle.assignment.specs.Assignment.{words_verdict, assignment_verdict}
use Rattle.qap.specs.declared.Blinders.{Blinders}
use Rattle.qap.specs.Polynomials.{blinder_words}
use Rattle.qap.specs.Refusals.{point_verdict}
use Rattle.field.specs.Field.{p}
use Rattle.qap.specs.Setting.{standard}
use Rattle.job_file.specs.File.{trailer_verdict}

abbrev pub blinders_in : List ℕ → Blinders
blinders_in t = record { first = word t 1; second = word t 2; third = word t 3 }

-- circuit, assignment, and what remains after them
unfoldable pub given_verdict : List ℕ → List ℕ → List ℕ → Outcome
given_verdict c a t =
    assignment_verdict p c a
    and_then trailer_verdict t
    and_then words_verdict p 12 0 (blinder_words (blinders_in t))
    and_then point_verdict standard c (word t 5)

-- circuit, and all words after it
unfoldable pub rest_verdict : List ℕ → List ℕ → Outcome
rest_verdict c r = given_verdict c (take (columns c + 2) r) (drop (columns c + 2) r)
