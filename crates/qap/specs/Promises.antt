-- What the product promises, sentence by sentence, in terms of the calls' own contracts: RULES 10. Each record is filled by one theorem of
-- proofs/Promises.antt for every sound setting, so for the one that the contracts cite.
use Rattle.std.specs.Prelude.{◌≡◌, List, ℕ, suc, ◌<◌, ◌≤◌, length, get_or}
use Rattle.outcome.specs.declared.Outcome.{Outcome}
use Rattle.outcome.specs.Verdict.{outcome, fine, Accepted, Refused}
use Rattle.algebra.specs.Polynomial.{Words, ◌≋⟨◌⟩◌}
use Rattle.algebra.specs.Points.{target}
use Rattle.algebra.specs.Blinding.{PlainQuotient, blinded_sum}
use Rattle.assignment.specs.Assignment.{public_section}
use Rattle.rows.specs.Rows.{RowsHold, FailsFirst}
use Rattle.qap.specs.Setting.{Setting, points_of}
use Rattle.qap.specs.Polynomials.{Column, blinder_a, blinder_b, blinder_c, blinder_words, quotient_length, IsQuotient}
use Rattle.qap.specs.Answers.{IsAnswers, AnswersAgree}
use Rattle.qap.specs.Refusals.{target_verdict, column_verdict, columns_verdict, ready_verdict, quotient_verdict, answers_verdict, check_answers_verdict, check_division_verdict}
use Rattle.qap.specs.Calls.{no_answers, AllColumns, TargetCall, ColumnCall, ColumnsCall, QuotientCall, AnswersCall, CheckAnswersCall, CheckDivisionCall}
use Rattle.qap.specs.Demands.{Exactly, IsFourth, SamePublic, Satisfied, Gives, GivesThree}
use Rattle.qap.specs.declared.Blinders.{Blinders}
use Rattle.qap.specs.declared.FourAnswers.{FourAnswers}

-- a call that writes a lent buffer: its verdict for a buffer's length, what the right words are, and its contract

-- refused, it gives the verdict's number and place, and changes no word
pub record Keeps (verdict : ℕ → Outcome) (Call : List ℕ → List ℕ → Outcome → Type 0) : Type 0 where
  pub keeps : {old new : List ℕ} {o : Outcome} → Call old new o → Refused (verdict (length old)) → (o ≡ verdict (length old)) × (new ≡ old)

-- done, the words are right; and it is done wherever the verdict accepts
pub record Fills (verdict : ℕ → Outcome) (Right : List ℕ → Type 0) (Call : List ℕ → List ℕ → Outcome → Type 0) : Type 0 where
  pub right : {old new : List ℕ} {o : Outcome} → Call old new o → o ≡ fine → Right new
  pub done : {old new : List ℕ} {o : Outcome} → Call old new o → Accepted (verdict (length old)) → o ≡ fine

-- any two results that it admits are equal
pub record Determines (Call : List ℕ → List ℕ → Outcome → Type 0) : Type 0 where
  pub same : {old new new' : List ℕ} {o o' : Outcome} → Call old new o → Call old new' o' → (o ≡ o') × (new ≡ new')

-- Demand 1. Bad words, wrong lengths and points on a row get the numbered refusal, and a refused call changes no word lent to it.
pub record RefusalsKept (S : Setting) : Type 0 where
  pub target : (m : ℕ) → Keeps (target_verdict S m) (TargetCall S m)
  pub column : (c : List ℕ) (matrix j : ℕ) → Keeps (column_verdict S c matrix j) (ColumnCall S c matrix j)
  pub columns : (c : List ℕ) (matrix : ℕ) → Keeps (columns_verdict S c matrix) (ColumnsCall S c matrix)
  pub quotient : (c a : List ℕ) (d : Blinders) → Keeps (quotient_verdict S c a d) (QuotientCall S c a d)
  pub answers : {c a : List ℕ} {d : Blinders} {s : ℕ} {o : Outcome} {r : FourAnswers} → AnswersCall S c a d s o r →
      Refused (answers_verdict S c a d s) → (o ≡ answers_verdict S c a d s) × (r ≡ no_answers)
  pub check_answers : {c b : List ℕ} {s : ℕ} {r : FourAnswers} {o : Outcome} → CheckAnswersCall S c b s r o →
      Refused (check_answers_verdict S c b s r) → o ≡ check_answers_verdict S c b s r
  pub check_division : {c a : List ℕ} {d : Blinders} {h : List ℕ} {o : Outcome} → CheckDivisionCall S c a d h o →
      Refused (check_division_verdict S c a d h) → o ≡ check_division_verdict S c a d h

-- Demand 2. Columns, target, quotient and answers equal the definition.
pub record ResultsRight (S : Setting) : Type 0 where
  pub target : (m : ℕ) → Fills (target_verdict S m) (λ f. f ≡ target S.p (S.points m)) (TargetCall S m)
  pub column : (c : List ℕ) (matrix j : ℕ) → Fills (column_verdict S c matrix j) (Column S c matrix j) (ColumnCall S c matrix j)
  pub columns : (c : List ℕ) (matrix : ℕ) → Fills (columns_verdict S c matrix) (AllColumns S c matrix) (ColumnsCall S c matrix)
  pub quotient : (c a : List ℕ) (d : Blinders) → Fills (quotient_verdict S c a d) (IsQuotient S c a d) (QuotientCall S c a d)
  pub answers : {c a : List ℕ} {d : Blinders} {s : ℕ} {o : Outcome} {r : FourAnswers} → AnswersCall S c a d s o r → o ≡ fine → IsAnswers S c a d s r

-- Past all other refusals a quotient is given exactly when every row holds; otherwise the lowest broken row is named.
pub record QuotientGiven (S : Setting) (c a : List ℕ) (d : Blinders) : Type 0 where
  pub given : {old new : List ℕ} {o : Outcome} → QuotientCall S c a d old new o → length old ≡ quotient_length S c → RowsHold S.p c a →
      (o ≡ fine) × IsQuotient S c a d new
  pub only_then : {old new : List ℕ} {o : Outcome} → QuotientCall S c a d old new o → length old ≡ quotient_length S c → o ≡ fine → RowsHold S.p c a
  pub named : {old new : List ℕ} {o : Outcome} → QuotientCall S c a d old new o → length old ≡ quotient_length S c → (RowsHold S.p c a → ⊥) →
      (i : ℕ) × FailsFirst S.p c a i × (o ≡ outcome 10 i) × (new ≡ old)

-- The quotient is H + d1 B + d2 A + d1 d2 Z − d3, where the plain quotient H is there; with blinders 0 the words past H's are 0.
pub record QuotientFormula (S : Setting) (c a : List ℕ) : Type 0 where
  pub formula : {d : Blinders} {h : List ℕ} (q : IsQuotient S c a d h) →
      (plain : List ℕ) × PlainQuotient S.p (points_of S c) q.A q.B q.C plain ×
      (h ≋⟨ S.p ⟩ blinded_sum S.p (points_of S c) q.A q.B (blinder_a d) (blinder_b d) (blinder_c d) plain)
  pub unblinded : {h : List ℕ} → IsQuotient S c a (record { first = 0; second = 0; third = 0 }) h →
      (k : ℕ) → length (points_of S c) ≤ suc k → k < length h → get_or h k 0 ≡ 0

-- The division check accepts that one quotient and no other list, of whatever length and words.
pub record DivisionChecked (S : Setting) (c a : List ℕ) (d : Blinders) : Type 0 where
  pub accepts : {h : List ℕ} {o : Outcome} → CheckDivisionCall S c a d h o → IsQuotient S c a d h → o ≡ fine
  pub no_other : {h : List ℕ} {o : Outcome} → CheckDivisionCall S c a d h o → o ≡ fine → IsQuotient S c a d h
  pub given_accepted : {old h : List ℕ} {o : Outcome} → QuotientCall S c a d old h fine → CheckDivisionCall S c a d h o → o ≡ fine
  -- where a row is broken no list is accepted, and one of the right length and words gets 13
  pub broken : {h : List ℕ} {o : Outcome} → CheckDivisionCall S c a d h o → (RowsHold S.p c a → ⊥) → o ≡ fine → ⊥
  pub broken_false : {h : List ℕ} {o : Outcome} → CheckDivisionCall S c a d h o → (RowsHold S.p c a → ⊥) → length h ≡ quotient_length S c →
      Words S.p h → o ≡ outcome 13 0

-- The box's four numbers always pass the tablet's check, beside the public section that is handed out; and what passes satisfies the equality.
pub record TabletAccepts (S : Setting) : Type 0 where
  pub passed_agrees : {c b : List ℕ} {s : ℕ} {r : FourAnswers} → CheckAnswersCall S c b s r fine → AnswersAgree S c b s r
  pub box_and_tablet : {c a : List ℕ} {d : Blinders} {s : ℕ} {r : FourAnswers} {o : Outcome} → AnswersCall S c a d s fine r →
      CheckAnswersCall S c (public_section S.p c a) s r o → o ≡ fine

-- Demand 3. Take an accepted circuit, an assignment that satisfies every row, and a field point on no row.
pub record TellsNothing (S : Setting) (c a : List ℕ) (s : ℕ) : Type 0 where
  -- every triple of field words is answered, with one answer
  pub answered : (d : Blinders) → Words S.p (blinder_words d) → Exactly FourAnswers (λ r. Gives S c a s r d)
  -- for any three field values exactly one blinder triple makes them the first three answers
  pub any_three : (v1 v2 v3 : ℕ) → v1 < S.p → v2 < S.p → v3 < S.p → Exactly Blinders (GivesThree S c a s v1 v2 v3)
  -- the fourth follows from circuit, public values, point and those three: exactly one word passes the tablet's check, and it is the call's
  pub fourth : (v1 v2 v3 : ℕ) → Exactly ℕ (IsFourth S c (public_section S.p c a) s v1 v2 v3)
  pub fourth_given : {d : Blinders} {r : FourAnswers} → Gives S c a s r d → IsFourth S c (public_section S.p c a) s r.first r.second r.third r.fourth
  -- an assignment b with equal public values has, for each triple of a, exactly one with the same four answers
  pub same_answers : (b : List ℕ) → Satisfied S c b s → SamePublic c a b → (d : Blinders) → Words S.p (blinder_words d) →
      (r : FourAnswers) × Gives S c a s r d × Exactly Blinders (Gives S c b s r)

-- Every call's contract determines its result: any two that it admits are equal.
pub record OneResult (S : Setting) : Type 0 where
  pub target : (m : ℕ) → Determines (TargetCall S m)
  pub column : (c : List ℕ) (matrix j : ℕ) → Determines (ColumnCall S c matrix j)
  pub columns : (c : List ℕ) (matrix : ℕ) → Determines (ColumnsCall S c matrix)
  pub quotient : (c a : List ℕ) (d : Blinders) → Determines (QuotientCall S c a d)
  pub answers : {c a : List ℕ} {d : Blinders} {s : ℕ} {o o' : Outcome} {r r' : FourAnswers} →
      AnswersCall S c a d s o r → AnswersCall S c a d s o' r' → (o ≡ o') × (r ≡ r')
  pub check_answers : {c b : List ℕ} {s : ℕ} {r : FourAnswers} {o o' : Outcome} → CheckAnswersCall S c b s r o → CheckAnswersCall S c b s r o' → o ≡ o'
  pub check_division : {c a : List ℕ} {d : Blinders} {h : List ℕ} {o o' : Outcome} →
      CheckDivisionCall S c a d h o → CheckDivisionCall S c a d h o' → o ≡ o'

-- All of it, for a setting.
pub record Promises (S : Setting) : Type 0 where
  pub refusals_kept : RefusalsKept S
  pub results_right : ResultsRight S
  pub quotient_given : (c a : List ℕ) (d : Blinders) → Accepted (ready_verdict S c a d) → QuotientGiven S c a d
  pub quotient_formula : (c a : List ℕ) (d : Blinders) → Accepted (ready_verdict S c a d) → QuotientFormula S c a
  pub division_checked : (c a : List ℕ) (d : Blinders) → Accepted (ready_verdict S c a d) → DivisionChecked S c a d
  pub tablet_accepts : TabletAccepts S
  pub tells_nothing : (c a : List ℕ) (s : ℕ) → Satisfied S c a s → TellsNothing S c a s
  pub one_result : OneResult S
