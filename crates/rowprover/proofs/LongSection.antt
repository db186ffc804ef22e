-- A public section of more than 257 words is refused whatever it holds: by the circuit, or by 6.
use mathlib.Core.List.{List}
use mathlib.Core.Path.{◌≡◌, sym, ◌∙◌}
use Prim.Native.Nat.{ℕ, ◌/◌, ◌<◌}
use native.Mathlib.Omega.{arith}
use lib.Dec.{leb}
use lib.ListN.{length}
use Rattle.outcome.specs.declared.Outcome.{Outcome}
use Rattle.outcome.specs.Verdict.{Accepted, outcome, ◌and_then◌, require}
use Rattle.outcome.proofs.Asked.{asked}
use Rattle.packing.specs.Packing.{unpacked}
use Rattle.packing.proofs.PackingLaws.{length-unpacked}
use Rattle.circuit.specs.Reader.{circuit_verdict}
use Rattle.circuit.proofs.Formed.{circuit-formed}
use Rattle.assignment.specs.Assignment.{public_verdict}
use Rattle.qap.specs.declared.FourAnswers.{FourAnswers}
use Rattle.qap.specs.Refusals.{check_answers_verdict}
use Rattle.qap.specs.Calls.{Judged}
use Rattle.refusals.proofs.Deciding.{judged-refused}
use Rattle.job_file.specs.File.{size_verdict}
use Rattle.job_file.proofs.FileLaws.{size-words}
use Rattle.field.specs.Field.{p}
use Rattle.qap.specs.Setting.{standard}
use Rattle.rowprover.specs.Exports.{most_section_bytes}

module _ (c b : List ℕ) (long : 257 < length b) where
  section-refused : (circuit_verdict p c).number ≡ 0 → public_verdict p c b ≡ outcome 6 0
  unfolding public_verdict
  section-refused h = let formed = (circuit-formed c (record { is_zero = h })).formed in grind (arith, asked)

  long_verdict : (s : ℕ) (r : FourAnswers) → check_answers_verdict standard c b s r ≡ circuit_verdict p c and_then outcome 6 0
  unfolding check_answers_verdict
  long_verdict s r = grind (arith, asked, section-refused)

-- as it is tested, on the section's bytes
pub long_section : (c bytes : List ℕ) {short o : Outcome} (s : ℕ) (r : FourAnswers) (Equal : Type 0) → Accepted (size_verdict (length bytes)) →
    short ≡ require (leb (length bytes) most_section_bytes) 6 0 → (short.number ≡ 0 → ⊥) → o ≡ circuit_verdict p c and_then short →
    Judged (check_answers_verdict standard c (unpacked bytes) s r) Equal o
long_section c bytes {short} {o} s r Equal whole tested long e =
    let size = (size-words (length bytes) whole).whole in
    let words = length-unpacked bytes (length bytes / 4) size in
    let more : most_section_bytes < length bytes = grind (arith, asked) in
    let six : short ≡ outcome 6 0 = grind (arith, asked) in
    let refused : o ≡ circuit_verdict p c and_then outcome 6 0 = rw six at e in
    judged-refused Equal (refused ∙ sym (long_verdict c (unpacked bytes) (omega arith) s r)) (λ zero. grind (arith, asked))
