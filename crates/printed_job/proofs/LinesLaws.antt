-- Past an accepted verdict: which verdict is left, and that the calls for target and quotient accept what the answers call did.
use mathlib.Core.List.{List}
use mathlib.Core.Path.{◌≡◌, sym, ◌∙◌}
use Prim.Native.Nat.{ℕ, ◌+◌, ◌≤◌}
use borrow.Author.Tests.{eq-eqb}
use lib.ListN.{length}
use Rattle.outcome.specs.Verdict.{Accepted}
use Rattle.outcome.proofs.Verdict.{accepted-both, accepted-parts, accepted-require, goes_on, within_true}
use Rattle.circuit.specs.Circuit.{rows, leading}
use Rattle.circuit.specs.WellFormed.{Formed}
use Rattle.circuit.proofs.Formed.{circuit-formed}
use Rattle.qap.specs.declared.Blinders.{Blinders}
use Rattle.qap.specs.Refusals.{length_verdict, target_verdict, quotient_verdict, answers_verdict}
use Rattle.qap.proofs.Settings.{answers_ready}
use Rattle.job_file.specs.File.{assignment_of, blinders_of, point_of, file_verdict, job_verdict}
use Rattle.job_file.proofs.FileLaws.{file_ready, file_answers_ready}
use Rattle.circuit.proofs.Rows.{row_range}
use Rattle.field.specs.Field.{p}
use Rattle.qap.specs.Setting.{standard}
use Rattle.algebra.proofs.Consecutive.{length-row_points}
use Rattle.qap.proofs.Standard.{quotient-words}

-- past the file's verdict the call for answers decides: only 10 is left
pub file_goes_on : (w : List ℕ) → Accepted (file_verdict w) →
    job_verdict w ≡ answers_verdict standard (leading w) (assignment_of w) (blinders_of w) (point_of w)
unfolding job_verdict answers_verdict
file_goes_on w h = goes_on _ h ∙ sym (goes_on _ (file_answers_ready w h) ∙ goes_on _ (file_ready w h).point)

exact : {size n : ℕ} → size ≡ n → Accepted (length_verdict size n)
unfolding length_verdict
exact e = accepted-require _ _ (eq-eqb _ _ e)

-- once the answers' verdict is 0, the calls for target and quotient accept
module _ (c a : List ℕ) (d : Blinders) (s : ℕ) (h : (answers_verdict standard c a d s).number ≡ 0) where
  formed : Formed p c
  formed = (circuit-formed c (answers_ready standard c a d s (record { is_zero = h })).given.circuit).formed

  pub few_rows : (3 ≤ length c) × (rows c ≤ 256)
  few_rows = (formed.counts, (row_range formed).at_most)

  pub target_accepts : {size : ℕ} → size ≡ rows c + 1 → (target_verdict standard (rows c) size).number ≡ 0
  unfolding target_verdict
  target_accepts e = (accepted-both (accepted-require _ _ (within_true (row_range formed))) (rw (length-row_points (rows c)) (exact e))).is_zero

  pub quotient_accepts : {size : ℕ} → size ≡ rows c + 1 → (quotient_verdict standard c a d size).number ≡ 0
  unfolding quotient_verdict answers_verdict
  quotient_accepts e =
      let passed : Accepted (answers_verdict standard c a d s) = record { is_zero = h } in
      let whole = exact (e ∙ sym (quotient-words p c)) in
      (accepted-both (accepted-parts passed).0 (accepted-both whole (answers_ready standard c a d s passed).rows_hold)).is_zero

pub ruleset behind_answers = (few_rows, target_accepts, quotient_accepts)
