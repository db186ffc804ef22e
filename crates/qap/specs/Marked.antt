-- RULES 9: lines a to m, as what the calls' contracts admit.
-- K is the circuit of input J; its assignments are written as they stand, counts included.
use Rattle.std.specs.Prelude.{◌≡◌, List, [], ◌∷◌, ℕ, length, set}
use Rattle.outcome.specs.declared.Outcome.{Outcome}
use Rattle.outcome.specs.Verdict.{fine, outcome}
use Rattle.circuit.specs.Reader.{circuit_verdict}
use Rattle.qap.specs.Setting.{standard}
use Rattle.qap.specs.Calls.{TargetCall, ColumnCall, QuotientCall, AnswersCall, CheckDivisionCall}
use Rattle.qap.specs.declared.Blinders.{Blinders}
use Rattle.qap.specs.declared.FourAnswers.{FourAnswers}

-- three counts, then sections A, B, C
unfoldable pub K : List ℕ
K = 2 ∷ 2 ∷ 4 ∷ 2 ∷ 1 ∷ 3 ∷ 1 ∷ 2 ∷ 4 ∷ 1 ∷ 3 ∷ 1 ∷ 3 ∷ 1 ∷ 2 ∷ 1 ∷ 2 ∷ 2 ∷ 3 ∷ 1 ∷ 2 ∷ 1 ∷ 4 ∷ 1 ∷ 2 ∷ 2 ∷ 1 ∷ []

unfoldable pub K1 : List ℕ
K1 = 1 ∷ 1 ∷ 2 ∷ 1 ∷ 1 ∷ 2 ∷ 1 ∷ 2 ∷ 1 ∷ 1 ∷ 2013265920 ∷ 1 ∷ 2 ∷ 1 ∷ 0 ∷ []

-- K with word 6 set to 0, and with words 7 to 9 set to 1 3 1

abbrev pub K-value : List ℕ
K-value = set K 6 0

abbrev pub K-order : List ℕ
K-order = set (set (set K 7 1) 8 3) 9 1

-- the assignment of J: public values 1 45, private values 3 9
unfoldable pub readings : List ℕ
readings = 2 ∷ 1 ∷ 45 ∷ 2 ∷ 3 ∷ 9 ∷ []

-- of K1: public value 1, private value 1
unfoldable pub ones : List ℕ
ones = 1 ∷ 1 ∷ 1 ∷ 1 ∷ []

abbrev pub blinders : ℕ → ℕ → ℕ → Blinders
blinders d1 d2 d3 = record { first = d1; second = d2; third = d3 }

abbrev pub answers : ℕ → ℕ → ℕ → ℕ → FourAnswers
answers r1 r2 r3 r4 = record { first = r1; second = r2; third = r3; fourth = r4 }

-- a buffer of as many words ends as these words, with 0: the contract admits that, and nothing else
pub record Writes (Call : List ℕ → List ℕ → Outcome → Type 0) (words : List ℕ) : Type 0 where
  pub admits : (old : List ℕ) → length old ≡ length words → Call old words fine
  pub no_other : (old new : List ℕ) (o : Outcome) → length old ≡ length words → Call old new o → (o ≡ fine) × (new ≡ words)

-- a buffer of that size is refused with number and place and keeps its words
pub record Refuses (Call : List ℕ → List ℕ → Outcome → Type 0) (size number place : ℕ) : Type 0 where
  pub admits : (old : List ℕ) → length old ≡ size → Call old old (outcome number place)
  pub no_other : (old new : List ℕ) (o : Outcome) → length old ≡ size → Call old new o → (o ≡ outcome number place) × (new ≡ old)

-- four answers with 0
pub record Answers (Call : Outcome → FourAnswers → Type 0) (r : FourAnswers) : Type 0 where
  pub admits : Call fine r
  pub no_other : (o : Outcome) (r' : FourAnswers) → Call o r' → (o ≡ fine) × (r' ≡ r)

-- a check's number and place
pub record Says (Call : Outcome → Type 0) (number place : ℕ) : Type 0 where
  pub admits : Call (outcome number place)
  pub no_other : (o : Outcome) → Call o → o ≡ outcome number place

pub record Marked : Type 0 where
  pub a : Writes (TargetCall standard 2) (2 ∷ 2013265918 ∷ 1 ∷ [])
  pub b : Writes (ColumnCall standard K 0 3) (2 ∷ 2013265920 ∷ [])
  pub c : Writes (ColumnCall standard K 1 1) (2013265919 ∷ 2 ∷ [])
  pub d : Writes (QuotientCall standard K readings (blinders 0 0 0)) (12 ∷ 0 ∷ 0 ∷ [])
  pub e : Writes (QuotientCall standard K readings (blinders 1 2 3)) (8 ∷ 8 ∷ 2 ∷ [])
  pub f : Answers (AnswersCall standard K readings (blinders 1 2 3) 0) (answers 2013265920 7 24 8)
  -- private values 3 10, and public values 1 46
  pub g : Refuses (QuotientCall standard K (set readings 5 10) (blinders 1 2 3)) 3 10 1
  pub h : Refuses (QuotientCall standard K (set readings 2 46) (blinders 1 2 3)) 3 10 2
  pub i : Writes (QuotientCall standard K1 ones (blinders 1 1 0)) (0 ∷ 1 ∷ [])
  -- private value 2
  pub j : Refuses (QuotientCall standard K1 (set ones 3 2) (blinders 1 1 0)) 2 10 1
  -- e with its last word set to 3
  pub k : Says (CheckDivisionCall standard K readings (blinders 1 2 3) (set (8 ∷ 8 ∷ 2 ∷ []) 2 3)) 13 0
  pub l : circuit_verdict standard.p K-value ≡ outcome 4 4
  pub m : circuit_verdict standard.p K-order ≡ outcome 5 7
