-- The two exported functions together: the verdicts over bytes are those of the calls over words, so what holds of the calls holds of them.
use mathlib.Core.List.{List, ◌∷◌}
use mathlib.Core.Logic.{⊎_elim}
use mathlib.Core.Path.{◌≡◌, sym, ◌∙◌, ap}
use Prim.Native.Nat.{ℕ, ◌*◌, ◌%◌, ◌≤◌}
use native.Mathlib.Omega.{arith}
use borrow.Author.Tests.{le-leb, eq-eqb}
use lib.Dec.{lit<}
use lib.ListN.{length, length-take}
use Rattle.outcome.specs.declared.Outcome.{Outcome}
use Rattle.outcome.specs.Verdict.{fine, Accepted, Refused}
use Rattle.outcome.proofs.Verdict.{accepted-fine, accepted-both, accepted-parts, accepted_or_refused, accepted-require, goes_on, not_both, Proper, proper-require, proper-and_then, accepted_new}
use Rattle.packing.specs.Packing.{unpacked}
use Rattle.packing.proofs.PackingLaws.{unpacked-packed}
use Rattle.circuit.specs.Circuit.{leading}
use Rattle.circuit.proofs.Formed.{circuit-formed}
use Rattle.assignment.specs.Assignment.{circuit_then_assignment, public_section}
use Rattle.rows.specs.Rows.{rows_verdict}
use Rattle.rows.proofs.Holds.{proper-rows}
use Rattle.qap.specs.Setting.{standard}
use Rattle.qap.specs.Answers.{AnswersAgree}
use Rattle.qap.specs.Refusals.{answer_words, answers_verdict}
use Rattle.qap.specs.Calls.{AnswersCall}
use Rattle.qap.proofs.Standard.{sound}
use Rattle.qap.proofs.PlaceZero.{proper-length, proper-answers, proper-check_answers}
use Rattle.qap.proofs.Checks.{answer_words_lem, tablet_accepts, passed_agrees}
use Rattle.job_file.specs.File.{assignment_of, blinders_of, point_of, most_bytes, size_verdict, file_verdict}
use Rattle.job_file.proofs.FileLaws.{file_ready, file_answers_ready, ends}
use Rattle.job_file.proofs.Proper.{proper-size, proper_file}
use Rattle.rowprover.specs.Exports.{integer, answers_bytes, query_bytes, query_point, query_answers, JobBytes, words_then_size, answers_bytes_verdict, sizes_verdict, check_bytes_verdict, AnswersExport, CheckExport}
use Rattle.rowprover.specs.Promises.{BytesOf, ExportPromises}
use Rattle.rowprover.proofs.Small.{few_words}
use Rattle.rowprover.proofs.OneResult.{answers_export_determined, check_export_determined}

ruleset proper = (proper-require, proper-and_then, lit<, tt)

-- 0 is number 0 at place 0
zero-fine : {o : Outcome} → 0 ≡ integer o → o ≡ fine
zero-fine {o} e =
    let number : o.number ≡ 0 = omega arith in
    let place : o.place ≡ 0 = omega arith in
    λ i. record { number = number i; place = place i }

pub proper-answers_bytes : (job : List ℕ) (size : ℕ) → Proper (answers_bytes_verdict job size)
unfolding answers_bytes_verdict words_then_size
proper-answers_bytes job size =
    let w = unpacked job in
    let sized = proper-size (length job) in
    let read = proper_file w in
    let room = proper-length size answers_bytes in
    let hold = proper-rows standard.p (leading w) (assignment_of w) in
    search proper depth 8

pub proper-check_bytes : (circuit section query : List ℕ) → Proper (check_bytes_verdict circuit section query)
unfolding check_bytes_verdict sizes_verdict
proper-check_bytes circuit section query =
    let first = proper-size (length circuit) in
    let second = proper-size (length section) in
    let asked = proper-check_answers sound (unpacked circuit) (unpacked section) (query_point (unpacked query)) (query_answers (unpacked query)) in
    search proper depth 8

module _ {job old new : List ℕ} (export : AnswersExport job old new 0) where
  accepted : Accepted (answers_bytes_verdict job (length old))
  accepted = rw (sym (sym (zero-fine export.returned) ∙ export.filled.number_and_place)) accepted-fine

  written : JobBytes (unpacked job) new
  written = export.filled.done accepted

  size-accepted : Accepted (size_verdict (length job))
  unfolding answers_bytes_verdict
  size-accepted = (accepted-parts accepted).0

  file_accepted : Accepted (file_verdict (unpacked job))
  unfolding answers_bytes_verdict words_then_size
  file_accepted = (accepted-parts (accepted-parts accepted).1).0

  rows-accepted : Accepted (rows_verdict standard.p (leading (unpacked job)) (assignment_of (unpacked job)))
  unfolding answers_bytes_verdict words_then_size
  rows-accepted = (accepted-parts (accepted-parts (accepted-parts accepted).1).1).1

  -- the call over words was done, and gave these answers
  called : AnswersCall standard (leading (unpacked job)) (assignment_of (unpacked job)) (blinders_of (unpacked job)) (point_of (unpacked job)) fine written.answers
  unfolding answers_verdict
  called =
      let all = accepted-both (file_answers_ready (unpacked job) file_accepted) (accepted-both (file_ready (unpacked job) file_accepted).point rows-accepted) in
      record {
        number_and_place = sym ((proper-answers sound _ _ _ _).fine_if_accepted all);
        done = λ _. written.are_answers;
        none = λ refused. absurd (not_both all refused);
      }

  answer_bytes : unpacked new ≡ answer_words written.answers
  answer_bytes =
      let words = answer_words_lem sound written.are_answers in
      ap unpacked written.are_bytes
      ∙ (unpacked-packed (answer_words written.answers) (λ i l. omega (arith, words.below i l, sound.field.below)))

  few : length (unpacked job) ≤ 9486
  few = few_words job size-accepted

  module _ {circuit section query : List ℕ} (circuit-bytes : BytesOf (leading (unpacked job)) circuit)
      (section-bytes : BytesOf (public_section standard.p (leading (unpacked job)) (assignment_of (unpacked job))) section)
      (query-bytes : BytesOf (point_of (unpacked job) ∷ unpacked new) query) where
    section-words : length (public_section standard.p (leading (unpacked job)) (assignment_of (unpacked job))) ≤ 257
    unfolding public_section circuit_then_assignment
    section-words =
        let ready = file_ready (unpacked job) file_accepted in
        let formed = (circuit-formed (leading (unpacked job)) ready.circuit).formed in
        let read = accepted-both ready.circuit ready.assignment in
        rw (accepted_new _ _ read) (simp length-take (omega (arith, formed.public_count.at_most, formed.column_count.at_most)))

    whole : {n k : ℕ} → n ≡ 4 * k → k ≤ 9486 → Accepted (size_verdict n)
    unfolding size_verdict
    whole {n} e small =
        accepted-both (accepted-require 14 0 (le-leb n most_bytes (omega arith))) (accepted-require 14 0 (eq-eqb (n % 4) 0 (omega arith)))

    sizes : Accepted (sizes_verdict (length circuit) (length section) (length query))
    unfolding sizes_verdict
    sizes =
        let ending = ends (unpacked job) file_accepted in
        let four : length (unpacked new) ≡ 4 = ap length answer_bytes in
        accepted-both (whole circuit-bytes.size (omega (arith, ending.circuit, ending.within, few)))
        (accepted-both (whole section-bytes.size (omega (arith, section-words)))
        (accepted-require 14 0 (eq-eqb (length query) query_bytes (omega (arith, query-bytes.size, four)))))

    pub tablet_returns : {r : ℕ} → CheckExport circuit section query r → r ≡ 0
    unfolding check_bytes_verdict
    tablet_returns check =
        let judged = rw (goes_on _ sizes) at check.judged in
        let words = rw (circuit-bytes.hold, section-bytes.hold, query-bytes.hold, answer_bytes) at judged in
        check.returned ∙ ap integer (tablet_accepts sound _ _ _ _ _ called words)

-- what check returns 0 for passed the sizes and the call over words
zero_agrees : {circuit section query : List ℕ} → CheckExport circuit section query 0 →
    AnswersAgree standard (unpacked circuit) (unpacked section) (query_point (unpacked query)) (query_answers (unpacked query))
unfolding check_bytes_verdict
zero_agrees {circuit} {section} {query} check =
    let is-fine = zero-fine check.returned in
    let good : Accepted (check_bytes_verdict circuit section query) = ⊎_elim (λ all. all)
    (λ (bad : Refused (check_bytes_verdict circuit section query)).
    absurd (not_both (rw (sym (check.judged.refused bad) ∙ is-fine) accepted-fine) bad))
    (accepted_or_refused (check_bytes_verdict circuit section query)) in
    let judged = rw (goes_on _ (accepted-parts good).0) at check.judged in
    passed_agrees sound _ _ _ _ (rw is-fine at judged)

pub export_promises : ExportPromises
export_promises = record {
  zero_answers = λ export. written export;
  else_kept = λ {job} {old} {new} {r} export other. ⊎_elim
      (λ (good : Accepted (answers_bytes_verdict job (length old))). absurd (other
      (export.returned ∙ ap integer (export.filled.number_and_place ∙ (proper-answers_bytes job (length old)).fine_if_accepted good))))
      (λ (bad : Refused (answers_bytes_verdict job (length old))). export.filled.kept bad)
      (accepted_or_refused (answers_bytes_verdict job (length old)));
  zero_agrees = λ {circuit} {section} {query} check. zero_agrees check;
  box_and_tablet = λ export c b q check. tablet_returns export c b q check;
  one_answers = λ {job} s t. answers_export_determined job s t;
  one_check = λ {circuit} {section} {query} s t. check_export_determined circuit section query s t;
}
