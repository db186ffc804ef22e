-- How large the places of the calls' verdicts can be: so 256 times one fits 64 bits wherever the words are few enough. RULES 6.
use mathlib.Core.List.{List}
use Prim.Native.Nat.{ℕ, ◌≤◌}
use native.Mathlib.Omega.{arith}
use lib.ListN.{length}
use Rattle.outcome.proofs.Near.{Near, near}
use Rattle.circuit.proofs.Places.{near-circuit}
use Rattle.assignment.proofs.Places.{near-words, near-public}
use Rattle.qap.specs.Setting.{Setting}
use Rattle.qap.specs.Refusals.{answer_words, point_verdict, length_verdict, check_answers_verdict}
use Rattle.qap.specs.declared.FourAnswers.{FourAnswers}

module _ {bound : ℕ} where
  pub near-length : (given wanted : ℕ) → wanted ≤ bound → Near bound (length_verdict given wanted)
  unfolding length_verdict
  near-length given wanted l = search near

  pub near-point : (S : Setting) (c : List ℕ) (s : ℕ) → Near bound (point_verdict S c s)
  unfolding point_verdict
  near-point S c s = let zeroth : 0 ≤ bound = omega arith in search near

  -- the answer check: four answers, and as many words as are given
  pub near-check_answers : (S : Setting) (c b : List ℕ) (s : ℕ) (r : FourAnswers) → length c ≤ bound → length b ≤ bound → 4 ≤ bound →
      Near bound (check_answers_verdict S c b s r)
  unfolding check_answers_verdict
  near-check_answers S c b s r few-c few-b four =
      let read = near-circuit S.p c few-c (omega arith) in
      let section = near-public S.p b few-b (omega arith) c in
      let words = near-words S.p 12 0 (answer_words r) four in
      let pointed = near-point S c s in
      search near depth 8
