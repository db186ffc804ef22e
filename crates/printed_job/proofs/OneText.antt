-- The program's text is determined by the bytes of its file, and the answer check at its end accepts.
-- RULES 10.
use mathlib.Core.List.{List}
use mathlib.Core.Logic.{⊎_elim}
use mathlib.Core.Path.{◌≡◌, sym, ◌∙◌, ap}
use Prim.Native.Nat.{ℕ}
use lib.ListN.{length}
use Rattle.outcome.specs.declared.Outcome.{Outcome}
use Rattle.outcome.specs.Verdict.{Accepted, Refused, fine}
use Rattle.outcome.proofs.Verdict.{accepted_or_refused, accepted-parts, not_both, Proper, proper-and_then}
use Rattle.packing.specs.Packing.{unpacked}
use Rattle.text.proofs.TextLaws.{same_bytes}
use Rattle.qap.specs.declared.Blinders.{Blinders}
use Rattle.qap.specs.Calls.{AnswersCall}
use Rattle.qap.specs.Refusals.{answers_verdict}
use Rattle.circuit.proofs.Formed.{circuit-formed}
use Rattle.qap.proofs.Checks.{tablet_accepts}
use Rattle.qap.proofs.Determined.{answers_unique, judged-once}
use Rattle.qap.proofs.PlaceZero.{proper-answers}
use Rattle.qap.proofs.Quotients.{quotient_unique}
use Rattle.qap.proofs.Settings.{answers_ready}
use Rattle.qap.proofs.Standard.{sound}
use Rattle.job_file.specs.File.{job_verdict}
use Rattle.job_file.proofs.FileLaws.{job_answers}
use Rattle.qap.specs.Setting.{standard}
use Rattle.job_file.proofs.Proper.{proper-size, proper_job}
use Rattle.printed_job.specs.Promises.{PrintPromises}
use Rattle.printed_job.specs.Lines.{program_verdict, FiveOf, FiveLines, Prints}
use Rattle.printed_job.specs.TextUpTo.{TextUpTo, blank}

module _ {c a : List ℕ} {d : Blinders} {s : ℕ} (h : Accepted (answers_verdict standard c a d s)) where
  five_determined : {t t' : List ℕ} → FiveOf c a d s t → FiveOf c a d s t' → t ≡ t'
  five_determined {t} {t'} x y =
      let formed = (circuit-formed c (answers_ready standard c a d s h).given.circuit).formed in
      let quotient = quotient_unique sound formed a d x.is_quotient y.is_quotient in
      let answers = answers_unique sound formed a d s x.are_answers y.are_answers in
      let check : x.check ≡ y.check = judged-once x.is_check (rw answers y.is_check) in
      x.lines ∙ rw (quotient, answers, check) (sym y.lines)

  -- the tablet accepts what the box answers
  five_check : {t : List ℕ} (x : FiveOf c a d s t) → x.check.number ≡ 0
  five_check x =
      let call : AnswersCall standard c a d s fine x.answers = record {
        number_and_place = sym ((proper-answers sound c a d s).fine_if_accepted h);
        done = λ _. x.are_answers;
        none = λ r. absurd (not_both h r);
      } in
      ap (λ (o : Outcome). o.number) (tablet_accepts sound c a d s x.answers call x.is_check)

-- any two texts that the program may print for the same bytes are equal
pub printed_determined : (b : List ℕ) {t t' : List ℕ} → Prints b t → Prints b t' → t ≡ t'
unfolding program_verdict
printed_determined b x y = ⊎_elim
    (λ (h : Accepted (program_verdict b)). five_determined (job_answers (unpacked b) (accepted-parts h).1) (x.done h) (y.done h))
    (λ (r : Refused (program_verdict b)). x.refused r ∙ sym (y.refused r))
    (accepted_or_refused (program_verdict b))

-- and so are two results of the run: as long, and the same bytes
pub run_determined : (b : List ℕ) {x y : List ℕ} {e e' : ℕ} → TextUpTo (Prints b) blank x e → TextUpTo (Prints b) blank y e' → (e ≡ e') × (x ≡ y)
run_determined b w v = same_bytes w.within v.within (printed_determined b w.says v.says) w.rest v.rest

-- the last of the five lines says 0
pub check-number : (w : List ℕ) {t : List ℕ} → Accepted (job_verdict w) → (x : FiveLines w t) → x.check.number ≡ 0
check-number w h x = five_check (job_answers w h) x

pub proper_program : (b : List ℕ) → Proper (program_verdict b)
unfolding program_verdict
proper_program b = proper-and_then (proper-size (length b)) (proper_job (unpacked b))

pub print_promises : PrintPromises
unfolding program_verdict
print_promises = record {
  one_text = λ b x y. printed_determined b x y;
  one_run = λ b w v. run_determined b w v;
  accepted_zero = λ b h. (proper_program b).fine_if_accepted h;
  last_line_zero = λ b h five. check-number (unpacked b) (accepted-parts h).1 five;
}
