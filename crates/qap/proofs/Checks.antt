-- What the two checks accept, over the calls' contracts: the division check exactly the quotient, and the answer check
-- every answer that the answers call gives, beside the public section that is handed out. RULES 5.
use mathlib.Core.Path.{◌≡◌, sym, ◌∙◌, ap}
use mathlib.Core.List.{List}
use mathlib.Core.Logic.{⊎_elim}
use Prim.Native.Nat.{ℕ, zero, suc, ◌+◌, ◌*◌, ◌%◌, ◌<◌}
use native.Mathlib.Nat.{mod-lt}
use native.Mathlib.Decide.{ℕ_discrete}
use native.Mathlib.Omega.{arith}
use lib.Dec.{lit<}
use lib.ListN.{get_or, take}
use lib.Seq.{ext_get_or}
use Rattle.outcome.specs.declared.Outcome.{Outcome}
use Rattle.outcome.specs.Verdict.{Accepted, Refused, fine}
use Rattle.outcome.proofs.Verdict.{accepted-fine, accepted-both, accepted_or_refused, not_both, accepted_new}
use Rattle.algebra.specs.Polynomial.{Words, value}
use Rattle.circuit.specs.Circuit.{publics}
use Rattle.circuit.proofs.Formed.{circuit-formed}
use Rattle.assignment.specs.Assignment.{circuit_then_assignment, public_section}
use Rattle.assignment.proofs.Accepted.{words-formed, words-accepted, assignment_formed}
use Rattle.assignment.proofs.Assigned.{public-assigned, section-accepted}
use Rattle.rows.specs.Rows.{rows_verdict}
use Rattle.rows.proofs.Holds.{accepted-holds, holds-accepted}
use Rattle.circuit.specs.WellFormed.{Formed}
use Rattle.qap.specs.Setting.{Setting, Sound}
use Rattle.qap.specs.Polynomials.{target_of, IsQuotient}
use Rattle.qap.specs.Answers.{IsAnswers, AnswersAgree, CandidateDivides}
use Rattle.qap.specs.Refusals.{answer_words, check_answers_verdict, check_division_verdict}
use Rattle.qap.specs.Calls.{AnswersCall, CheckAnswersCall, CheckDivisionCall}
use Rattle.qap.specs.Demands.{SamePublic}
use Rattle.qap.specs.declared.Blinders.{Blinders}
use Rattle.qap.specs.declared.FourAnswers.{FourAnswers}
use Rattle.qap.proofs.Settings.{p_positive, AnswersReady, answers_ready, check_ready, DivisionReady, division_ready}
use Rattle.qap.proofs.Parts.{part_exists, part_unique}
use Rattle.qap.proofs.Quotients.{quotient-holds, quotient_exists, quotient_unique, candidate-quotient, quotient-candidate}
use Rattle.qap.proofs.Determined.{stable}
use Rattle.qap.proofs.AnswerLaws.{public-same, answers_agree}

module _ {S : Setting} (sound : Sound S) where
  -- what the answers call gives are field words
  pub answer_words_lem : {c a : List ℕ} {d : Blinders} {s : ℕ} {r : FourAnswers} → IsAnswers S c a d s r → Words S.p (answer_words r)
  answer_words_lem {r = r} h = record { below = each }
    where
      each : (i : ℕ) → i < 4 → get_or (answer_words r) i 0 < S.p
      each zero l = rw h.first (mod-lt _ (p_positive sound))
      each (suc zero) l = rw h.second (mod-lt _ (p_positive sound))
      each (suc (suc zero)) l = rw h.third (mod-lt _ (p_positive sound))
      each (suc (suc (suc zero))) l = rw h.fourth (mod-lt _ (p_positive sound))
      each (suc (suc (suc (suc i)))) l = absurd (omega arith)

  module _ (c a : List ℕ) (d : Blinders) (s : ℕ) (r : FourAnswers) (call : AnswersCall S c a d s fine r) where
    ready : AnswersReady S c a d s
    ready = answers_ready S c a d s (rw (← call.number_and_place) accepted-fine)

    answered : IsAnswers S c a d s r
    answered = call.done (rw (← call.number_and_place) accepted-fine)

    read : Accepted (circuit_then_assignment S.p c a)
    unfolding circuit_then_assignment
    read = accepted-both ready.given.circuit ready.given.assignment

    section-accepts : Accepted (check_answers_verdict S c (public_section S.p c a) s r)
    unfolding check_answers_verdict
    section-accepts = accepted-both ready.given.circuit
        (accepted-both (section-accepted sound.field c a read) (accepted-both (words-accepted sound.field 12 0 (answer_words_lem answered)) ready.point))

    -- the section that is handed out has the same public values
    pub same-section : SamePublic c a (public_section S.p c a)
    unfolding public_section
    same-section = record {
      values = λ j low high. rw (accepted_new (take (publics c + 1) a) _ read)
          (sym (public-assigned (circuit-formed c ready.given.circuit).formed (assignment_formed sound.field c a ready.given.assignment) j high));
    }

    section-agrees : AnswersAgree S c (public_section S.p c a) s r
    section-agrees =
        let formed = (circuit-formed c ready.given.circuit).formed in
        let agree = answers_agree sound formed a answered in
        record {
          A = agree.A;
          B = agree.B;
          C = agree.C;
          public_a = public-same sound formed a same-section agree.public_a;
          public_b = public-same sound formed a same-section agree.public_b;
          public_c = public-same sound formed a same-section agree.public_c;
          equal = agree.equal;
        }

    -- the tablet accepts what the box answers
    pub tablet_accepts : {o : Outcome} → CheckAnswersCall S c (public_section S.p c a) s r o → o ≡ fine
    tablet_accepts check = check.accepts section-accepts section-agrees

  -- what the answer check accepts satisfies its equality: parts are there, and two words are equal or not
  pub passed_agrees : (c b : List ℕ) (s : ℕ) (r : FourAnswers) → CheckAnswersCall S c b s r fine → AnswersAgree S c b s r
  passed_agrees c b s r call =
      let accepted = ⊎_elim (λ good. good)
      (λ (bad : Refused (check_answers_verdict S c b s r)). absurd (not_both (rw (sym (call.refused bad)) accepted-fine) bad))
      (accepted_or_refused (check_answers_verdict S c b s r)) in
      let formed = (circuit-formed c (check_ready S c b s r accepted).circuit).formed in
      let (A, public_a) = part_exists sound formed b 0 0 (publics c) in
      let (B, public_b) = part_exists sound formed b 1 0 (publics c) in
      let (C, public_c) = part_exists sound formed b 2 0 (publics c) in
      let left = (r.first + value A s) * (r.second + value B s) in
      let right = (r.third + value C s) + value (target_of S c) s * r.fourth in
      elim (ℕ_discrete (left % S.p) (right % S.p)) [
        | yes e ↦ record {
          A = A;
          B = B;
          C = C;
          public_a = public_a;
          public_b = public_b;
          public_c = public_c;
          equal = record { same = e };
        }
        | no differ ↦ absurd (
            let unequal : AnswersAgree S c b s r → ⊥ = λ agree.
            let same_A = part_unique sound formed agree.public_a public_a in
            let same-B = part_unique sound formed agree.public_b public_b in
            let same-C = part_unique sound formed agree.public_c public_c in
            differ (rw (same_A, same-B, same-C) at agree.equal).same in
            let contrary : ◌≡◌ {A = ℕ} 0 13 = ap (λ (x : Outcome). x.number) (call.rejects accepted unequal) in
            omega arith)
      ]

  module _ (c a : List ℕ) (d : Blinders) (h : List ℕ) (accepted : Accepted (check_division_verdict S c a d h)) {o : Outcome}
      (call : CheckDivisionCall S c a d h o) where
    given : DivisionReady S c a d h
    given = division_ready S c a d h accepted

    formed : Formed S.p c
    formed = (circuit-formed c given.given.circuit).formed

    divides-quotient : CandidateDivides S c a d h → IsQuotient S c a d h
    divides-quotient = candidate-quotient sound formed a d given.exact (words-formed sound.field 12 3 h (lit< tt) given.candidate)

    not_false : o ≡ fine → (CandidateDivides S c a d h → ⊥) → ⊥
    not_false e unequal =
        let contrary : ◌≡◌ {A = ℕ} 0 13 = ap (λ (x : Outcome). x.number) (sym e ∙ call.rejects accepted unequal) in
        omega arith

    -- the division check accepts exactly the quotient
    pub quotient-accepted : IsQuotient S c a d h → o ≡ fine
    quotient-accepted q = call.accepts accepted (quotient-candidate sound formed a d q)

    pub accepted-quotient : o ≡ fine → IsQuotient S c a d h
    accepted-quotient e = ⊎_elim
        (λ (hold : Accepted (rows_verdict S.p c a)).
        let (g, q) = quotient_exists sound formed a d (accepted-holds S.p c a hold) in
        let same : h ≡ g = ext_get_or 0 h g (given.exact ∙ sym q.quotient.size) (λ i l.
        stable (get_or h i 0) (get_or g i 0) (λ differ.
        not_false e (λ k. differ (ap (λ (f : List ℕ). get_or f i 0) (quotient_unique sound formed a d (divides-quotient k) q))))) in
        rw same q)
        (λ (fails : Refused (rows_verdict S.p c a)).
        absurd (not_false e (λ k. not_both (holds-accepted S.p c a (quotient-holds sound formed a (divides-quotient k))) fails)))
        (accepted_or_refused (rows_verdict S.p c a))
