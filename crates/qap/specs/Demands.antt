-- What demand 3 speaks of: exactly one blinder triple, the first three answers, and the fourth as what follows from them.
-- RULES 10, demand 3, over the definitions of specs/Answers.antt and the answers call's record in specs/Calls.antt.
use Rattle.std.specs.Prelude.{◌≡◌, List, ℕ, ◌<◌, ◌≤◌}
use Rattle.outcome.specs.Verdict.{Accepted, fine}
use Rattle.algebra.specs.Polynomial.{Words}
use Rattle.circuit.specs.Circuit.{publics}
use Rattle.circuit.specs.Reader.{circuit_verdict}
use Rattle.assignment.specs.Assignment.{assigned, assignment_verdict}
use Rattle.rows.specs.Rows.{RowsHold}
use Rattle.qap.specs.Setting.{Setting}
use Rattle.qap.specs.Polynomials.{blinder_words}
use Rattle.qap.specs.Answers.{IsAnswers, AnswersAgree}
use Rattle.qap.specs.Refusals.{point_verdict}
use Rattle.qap.specs.Calls.{AnswersCall}
use Rattle.qap.specs.declared.Blinders.{Blinders}
use Rattle.qap.specs.declared.FourAnswers.{FourAnswers}

-- one and no other
pub record Exactly (A : Type 0) (P : A → Type 0) : Type 0 where
  pub one : A
  pub has : P one
  pub no_other : (x : A) → P x → x ≡ one

-- field words as blinders, under which the answers to s are r
pub record Answered (S : Setting) (c a : List ℕ) (s : ℕ) (r : FourAnswers) (d : Blinders) : Type 0 where
  pub words : Words S.p (blinder_words d)
  pub answers : IsAnswers S c a d s r

-- field words as blinders, under which the first three answers are v1, v2, v3, whatever the fourth
pub record FirstThree (S : Setting) (c a : List ℕ) (s v1 v2 v3 : ℕ) (d : Blinders) : Type 0 where
  pub fourth : ℕ
  pub answered : Answered S c a s (record { first = v1; second = v2; third = v3; fourth = fourth }) d

-- the word w makes the answer check's equality true beside the first three: it is stated of circuit, public values and point alone
pub record IsFourth (S : Setting) (c b : List ℕ) (s v1 v2 v3 w : ℕ) : Type 0 where
  pub word : w < S.p
  pub agrees : AnswersAgree S c b s (record { first = v1; second = v2; third = v3; fourth = w })

-- two assignments, or an assignment and a public section, have the same public values
pub record SamePublic (c a b : List ℕ) : Type 0 where
  pub values : (j : ℕ) → 1 ≤ j → j ≤ publics c → assigned c a j ≡ assigned c b j

-- what demand 3 asks of circuit, assignment and point: accepted, every row satisfied, a field point on no row
pub record Satisfied (S : Setting) (c a : List ℕ) (s : ℕ) : Type 0 where
  pub circuit : Accepted (circuit_verdict S.p c)
  pub assignment : Accepted (assignment_verdict S.p c a)
  pub rows_hold : RowsHold S.p c a
  pub point : Accepted (point_verdict S c s)

-- the answers call is done under these blinders and gives r
abbrev pub Gives : Setting → List ℕ → List ℕ → ℕ → FourAnswers → Blinders → Type 0
Gives S c a s r d = AnswersCall S c a d s fine r

-- it is done, and the first three that it gives are v1, v2, v3, whatever the fourth
pub record GivesThree (S : Setting) (c a : List ℕ) (s v1 v2 v3 : ℕ) (d : Blinders) : Type 0 where
  pub fourth : ℕ
  pub gives : Gives S c a s (record { first = v1; second = v2; third = v3; fourth = fourth }) d
