-- A file's verdict that accepts is 0 at place 0. RULES 7.
use mathlib.Core.List.{List}
use Prim.Native.Nat.{ℕ}
use lib.Dec.{lit<}
use Rattle.outcome.proofs.Verdict.{Proper, proper-require, proper-and_then}
use Rattle.circuit.specs.Circuit.{leading}
use Rattle.circuit.proofs.Proper.{proper_prefix}
use Rattle.assignment.proofs.Accepted.{proper-words, proper-assignment}
use Rattle.rows.proofs.Holds.{proper-rows}
use Rattle.qap.specs.Setting.{standard}
use Rattle.qap.specs.Polynomials.{blinder_words}
use Rattle.qap.proofs.Standard.{sound}
use Rattle.qap.proofs.PlaceZero.{proper-point}
use Rattle.job_file.specs.File.{assignment_of, blinders_of, point_of, size_verdict, trailer_verdict, file_verdict, job_verdict}

ruleset proper = (proper-require, proper-and_then, lit<, tt)

pub proper-size : (n : ℕ) → Proper (size_verdict n)
unfolding size_verdict
proper-size n = search proper

pub proper_file : (w : List ℕ) → Proper (file_verdict w)
unfolding file_verdict trailer_verdict
proper_file w =
    let begun = proper_prefix standard.p w in
    let assigned = proper-assignment sound.field (leading w) (assignment_of w) in
    let words = proper-words sound.field 12 0 (blinder_words (blinders_of w)) (lit< tt) in
    let pointed = proper-point sound (leading w) (point_of w) in
    search proper depth 16

pub proper_job : (w : List ℕ) → Proper (job_verdict w)
unfolding job_verdict
proper_job w =
    let read = proper_file w in
    let hold = proper-rows standard.p (leading w) (assignment_of w) in
    search proper
