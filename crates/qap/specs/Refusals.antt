-- Which number and place each call gives: its checks in the rules' order
-- (circuit from the front, then 6, 7, 9, 12, 11, 8, 10), RULES 6. 13 is a check's own (specs/Calls.antt).
use Rattle.std.specs.Prelude.{not, List, [], ◌∷◌, ℕ, ◌+◌, ◌*◌, ◌-◌, leb, eqb, length}
use Rattle.outcome.specs.declared.Outcome.{Outcome}
use Rattle.outcome.specs.Verdict.{require, within, ◌and_then◌}
use Rattle.algebra.specs.Points.{among}
use Rattle.circuit.specs.Circuit.{columns}
use Rattle.circuit.specs.Reader.{circuit_verdict}
use Rattle.assignment.specs.Assignment.{words_verdict, assignment_verdict, public_verdict}
use Rattle.rows.specs.Rows.{rows_verdict}
use Rattle.qap.specs.Setting.{Setting, points_of}
use Rattle.qap.specs.Polynomials.{blinder_words, quotient_length}
use Rattle.qap.specs.declared.Blinders.{Blinders}
use Rattle.qap.specs.declared.FourAnswers.{FourAnswers}

-- 12: the words of a list of blinders or answers, by assignment's `words_verdict`

abbrev pub answer_words : FourAnswers → List ℕ
answer_words r = r.first ∷ r.second ∷ r.third ∷ r.fourth ∷ []

-- 11: the point above p − 1, or one of the points
unfoldable pub point_verdict : Setting → List ℕ → ℕ → Outcome
point_verdict S c s = require (leb s (S.p - 1)) 11 0 and_then require (not (among s (points_of S c))) 11 0

-- 8: a list not of the exact length; the place is the length wanted
unfoldable pub length_verdict : ℕ → ℕ → Outcome
length_verdict given wanted = require (eqb given wanted) 8 wanted

-- the target call: m alone, then the output's length
unfoldable pub target_verdict : Setting → ℕ → ℕ → Outcome
target_verdict S m size = require (within 1 m 256) 2 0 and_then length_verdict size (length (S.points m) + 1)

unfoldable pub column_verdict : Setting → List ℕ → ℕ → ℕ → ℕ → Outcome
column_verdict S c matrix j size =
    circuit_verdict S.p c
    and_then require (leb matrix 2) 9 0
    and_then require (within 1 j (columns c)) 9 0
    and_then length_verdict size (length (points_of S c))

unfoldable pub columns_verdict : Setting → List ℕ → ℕ → ℕ → Outcome
columns_verdict S c matrix size =
    circuit_verdict S.p c
    and_then require (leb matrix 2) 9 0
    and_then length_verdict size (columns c * length (points_of S c))

-- circuit, assignment and blinders, for the calls that take all three
unfoldable pub ready_verdict : Setting → List ℕ → List ℕ → Blinders → Outcome
ready_verdict S c a d =
    circuit_verdict S.p c
    and_then assignment_verdict S.p c a
    and_then words_verdict S.p 12 0 (blinder_words d)

unfoldable pub quotient_verdict : Setting → List ℕ → List ℕ → Blinders → ℕ → Outcome
quotient_verdict S c a d size =
    ready_verdict S c a d
    and_then length_verdict size (quotient_length S c)
    and_then rows_verdict S.p c a

unfoldable pub answers_verdict : Setting → List ℕ → List ℕ → Blinders → ℕ → Outcome
answers_verdict S c a d s =
    ready_verdict S c a d
    and_then point_verdict S c s
    and_then rows_verdict S.p c a

unfoldable pub check_answers_verdict : Setting → List ℕ → List ℕ → ℕ → FourAnswers → Outcome
check_answers_verdict S c b s r =
    circuit_verdict S.p c
    and_then public_verdict S.p c b
    and_then words_verdict S.p 12 0 (answer_words r)
    and_then point_verdict S c s

-- blinders are 0 to 2, candidate words follow from 3
unfoldable pub check_division_verdict : Setting → List ℕ → List ℕ → Blinders → List ℕ → Outcome
check_division_verdict S c a d h =
    ready_verdict S c a d
    and_then words_verdict S.p 12 3 h
    and_then length_verdict (length h) (quotient_length S c)
