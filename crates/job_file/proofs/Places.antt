-- A file's place is at most the number of its words, or the most rows. RULES 7.
use mathlib.Core.List.{List}
use Prim.Native.Nat.{ℕ, ◌≤◌}
use native.Mathlib.Omega.{arith}
use lib.ListN.{length, length-take, length-drop}
use Rattle.outcome.specs.Verdict.{Accepted}
use Rattle.outcome.proofs.Near.{Near, near, near_then}
use Rattle.circuit.specs.Limits.{most_rows}
use Rattle.circuit.specs.Circuit.{leading}
use Rattle.circuit.proofs.Formed.{circuit-formed}
use Rattle.circuit.proofs.Places.{near_prefix}
use Rattle.assignment.proofs.Places.{near-words, near-assignment}
use Rattle.rows.specs.Rows.{rows_verdict}
use Rattle.rows.proofs.Places.{near-rows}
use Rattle.qap.specs.Setting.{standard}
use Rattle.qap.specs.Polynomials.{blinder_words}
use Rattle.qap.proofs.Places.{near-point}
use Rattle.job_file.specs.File.{assignment_of, blinders_of, point_of, size_verdict, trailer_verdict, file_verdict, job_verdict}
use Rattle.job_file.proofs.FileLaws.{file_ready}

module _ {bound : ℕ} (enough : most_rows ≤ bound) where
  pub near-size : (n : ℕ) → Near bound (size_verdict n)
  unfolding size_verdict
  near-size n = let zeroth : 0 ≤ bound = omega arith in search near

  module _ (w : List ℕ) (few : length w ≤ bound) where
    pub near_file : Near bound (file_verdict w)
    unfolding file_verdict trailer_verdict
    near_file =
        let zeroth : 0 ≤ bound = omega arith in
        let begun = near_prefix standard.p w few (omega arith) in
        let short : length (assignment_of w) ≤ bound = simp (length-take, length-drop) (omega arith) in
        let assigned = near-assignment standard.p (assignment_of w) short (omega arith) (leading w) in
        let words = near-words standard.p {bound = bound} 12 0 (blinder_words (blinders_of w)) (omega arith) in
        let pointed = near-point {bound = bound} standard (leading w) (point_of w) in
        search near depth 16

    -- past the file's checks the rows are few
    pub near_held : Accepted (file_verdict w) → Near bound (rows_verdict standard.p (leading w) (assignment_of w))
    near_held h =
        let formed = (circuit-formed (leading w) (file_ready w h).circuit).formed in
        near-rows standard.p (leading w) (assignment_of w) (omega (arith, formed.row_count.at_most))

    pub near_job : Near bound (job_verdict w)
    unfolding job_verdict
    near_job = near_then near_file near_held
