-- Number 0 has place 0, whichever call gives it: the first line of the table of RULES 6.
use mathlib.Core.List.{List}
use Prim.Native.Nat.{ℕ, ◌+◌, ◌*◌}
use lib.Dec.{lit<}
use lib.ListN.{length}
use Rattle.outcome.proofs.Verdict.{Proper, proper-require, proper-and_then}
use Rattle.circuit.specs.Circuit.{columns}
use Rattle.circuit.proofs.Proper.{proper-circuit}
use Rattle.assignment.proofs.Accepted.{proper-words, proper-assignment, proper-public}
use Rattle.rows.proofs.Holds.{proper-rows}
use Rattle.qap.specs.Setting.{Setting, Sound, points_of}
use Rattle.qap.specs.Polynomials.{blinder_words, quotient_length}
use Rattle.qap.specs.Refusals.{answer_words, point_verdict, length_verdict, target_verdict, column_verdict, columns_verdict, ready_verdict, quotient_verdict, answers_verdict, check_answers_verdict, check_division_verdict}
use Rattle.qap.specs.declared.Blinders.{Blinders}
use Rattle.qap.specs.declared.FourAnswers.{FourAnswers}

ruleset proper = (proper-require, proper-and_then, lit<, tt)

pub proper-length : (given wanted : ℕ) → Proper (length_verdict given wanted)
unfolding length_verdict
proper-length given wanted = search proper

module _ {S : Setting} (sound : Sound S) where
  pub proper-point : (c : List ℕ) (s : ℕ) → Proper (point_verdict S c s)
  unfolding point_verdict
  proper-point c s = search proper

  pub proper-target : (m size : ℕ) → Proper (target_verdict S m size)
  unfolding target_verdict
  proper-target m size = let sized = proper-length size (length (S.points m) + 1) in search proper

  pub proper-column : (c : List ℕ) (matrix j size : ℕ) → Proper (column_verdict S c matrix j size)
  unfolding column_verdict
  proper-column c matrix j size =
      let read = proper-circuit S.p c in
      let sized = proper-length size (length (points_of S c)) in
      search proper depth 8

  pub proper-columns : (c : List ℕ) (matrix size : ℕ) → Proper (columns_verdict S c matrix size)
  unfolding columns_verdict
  proper-columns c matrix size =
      let read = proper-circuit S.p c in
      let sized = proper-length size (columns c * length (points_of S c)) in
      search proper depth 8

  proper-ready : (c a : List ℕ) (d : Blinders) → Proper (ready_verdict S c a d)
  unfolding ready_verdict
  proper-ready c a d =
      let read = proper-circuit S.p c in
      let assigned = proper-assignment sound.field c a in
      let words = proper-words sound.field 12 0 (blinder_words d) (lit< tt) in
      search proper depth 8

  pub proper-quotient : (c a : List ℕ) (d : Blinders) (size : ℕ) → Proper (quotient_verdict S c a d size)
  unfolding quotient_verdict
  proper-quotient c a d size =
      let ready = proper-ready c a d in
      let sized = proper-length size (quotient_length S c) in
      let hold = proper-rows S.p c a in
      search proper depth 8

  pub proper-answers : (c a : List ℕ) (d : Blinders) (s : ℕ) → Proper (answers_verdict S c a d s)
  unfolding answers_verdict
  proper-answers c a d s =
      let ready = proper-ready c a d in
      let pointed = proper-point c s in
      let hold = proper-rows S.p c a in
      search proper depth 8

  pub proper-check_answers : (c b : List ℕ) (s : ℕ) (r : FourAnswers) → Proper (check_answers_verdict S c b s r)
  unfolding check_answers_verdict
  proper-check_answers c b s r =
      let read = proper-circuit S.p c in
      let section = proper-public sound.field c b in
      let words = proper-words sound.field 12 0 (answer_words r) (lit< tt) in
      let pointed = proper-point c s in
      search proper depth 8

  pub proper-check_division : (c a : List ℕ) (d : Blinders) (h : List ℕ) → Proper (check_division_verdict S c a d h)
  unfolding check_division_verdict
  proper-check_division c a d h =
      let ready = proper-ready c a d in
      let words = proper-words sound.field 12 3 h (lit< tt) in
      let sized = proper-length (length h) (quotient_length S c) in
      search proper depth 8
