-- Each exported function's contract determines the returned integer and every output byte.
-- RULES 10.
use mathlib.Core.List.{List}
use mathlib.Core.Path.{◌≡◌, sym, ◌∙◌, ap}
use Prim.Native.Nat.{ℕ}
use Rattle.outcome.specs.Verdict.{Accepted}
use Rattle.outcome.proofs.Verdict.{accepted-parts}
use Rattle.packing.specs.Packing.{unpacked, packed}
use Rattle.qap.specs.Refusals.{answer_words}
use Rattle.circuit.proofs.Formed.{circuit-formed}
use Rattle.qap.proofs.Standard.{sound}
use Rattle.qap.proofs.Determined.{filled-once, judged-once, answers_unique}
use Rattle.job_file.specs.File.{file_verdict}
use Rattle.job_file.proofs.FileLaws.{file_ready}
use Rattle.rowprover.specs.Exports.{integer, JobBytes, words_then_size, answers_bytes_verdict, AnswersExport, CheckExport}

file_accepted : (job : List ℕ) (size : ℕ) → Accepted (answers_bytes_verdict job size) → Accepted (file_verdict (unpacked job))
unfolding answers_bytes_verdict words_then_size
file_accepted job size h = (accepted-parts (accepted-parts h).1).0

bytes_once : (w : List ℕ) → Accepted (file_verdict w) → (f g : List ℕ) → JobBytes w f → JobBytes w g → f ≡ g
bytes_once w h f g s t =
    let same = answers_unique sound (circuit-formed _ (file_ready w h).circuit).formed _ _ _ s.are_answers t.are_answers in
    s.are_bytes ∙ ap (λ r. packed (answer_words r)) same ∙ sym t.are_bytes

pub answers_export_determined : (job : List ℕ) {old new new' : List ℕ} {r r' : ℕ} →
    AnswersExport job old new r → AnswersExport job old new' r' → (r ≡ r') × (new ≡ new')
answers_export_determined job s t =
    let (number, bytes) = filled-once (λ h. bytes_once (unpacked job) (file_accepted job _ h)) s.filled t.filled in
    (s.returned ∙ ap integer number ∙ sym t.returned, bytes)

pub check_export_determined : (circuit section query : List ℕ) {r r' : ℕ} →
    CheckExport circuit section query r → CheckExport circuit section query r' → r ≡ r'
check_export_determined circuit section query s t = s.returned ∙ ap integer (judged-once s.judged t.judged) ∙ sym t.returned
