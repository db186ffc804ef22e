-- Demand 3 over the answers call's record: for an accepted circuit, an assignment that satisfies every row and a field point on
-- no row, the call is done under exactly one blinder triple with any three field values first, the fourth follows from what is
-- public, and two assignments with equal public values give the same four answers, each under exactly one triple.
use mathlib.Core.List.{List}
use mathlib.Core.Path.{sym}
use Prim.Native.Nat.{ℕ, ◌<◌}
use lib.Dec.{lit<}
use Rattle.outcome.specs.Verdict.{Accepted, fine}
use Rattle.outcome.proofs.Verdict.{accepted-both, accepted-fine, not_both}
use Rattle.algebra.specs.Polynomial.{Words}
use Rattle.assignment.specs.Assignment.{public_section}
use Rattle.assignment.proofs.Accepted.{words-formed, words-accepted}
use Rattle.rows.proofs.Holds.{holds-accepted}
use Rattle.circuit.specs.WellFormed.{Formed}
use Rattle.circuit.proofs.Formed.{circuit-formed}
use Rattle.qap.specs.Setting.{Setting, Sound}
use Rattle.qap.specs.Polynomials.{blinder_words}
use Rattle.qap.specs.Refusals.{ready_verdict, answers_verdict}
use Rattle.qap.specs.Calls.{AnswersCall}
use Rattle.qap.specs.Demands.{Exactly, Answered, IsFourth, SamePublic, Satisfied, Gives, GivesThree}
use Rattle.qap.specs.declared.Blinders.{Blinders}
use Rattle.qap.specs.declared.FourAnswers.{FourAnswers}
use Rattle.qap.proofs.Settings.{off_rows, answers_ready}
use Rattle.qap.proofs.PlaceZero.{proper-answers}
use Rattle.qap.proofs.Checks.{same-section}
use Rattle.qap.proofs.Demand3.{any_three, only-fourth, fourth_follows, same_answers}
use Rattle.qap.proofs.Quotients.{answers_exist}
use Rattle.qap.proofs.Determined.{answers_unique}

module _ {S : Setting} (sound : Sound S) (c a : List ℕ) (s : ℕ) (given : Satisfied S c a s) where
  formed : Formed S.p c
  formed = (circuit-formed c given.circuit).formed

  passes : {d : Blinders} → Words S.p (blinder_words d) → Accepted (answers_verdict S c a d s)
  unfolding answers_verdict ready_verdict
  passes w = accepted-both
      (accepted-both given.circuit (accepted-both given.assignment (words-accepted sound.field 12 0 w)))
      (accepted-both given.point (holds-accepted S.p c a given.rows_hold))

  -- what the call gives, done, are the answers under field words, and it gives them
  call-answered : {d : Blinders} {r : FourAnswers} → Gives S c a s r d → Answered S c a s r d
  call-answered {d} call =
      let accepted : Accepted (answers_verdict S c a d s) = rw (← call.number_and_place) accepted-fine in
      let ready = answers_ready S c a d s accepted in
      record {
        words = words-formed sound.field 12 0 (blinder_words d) (lit< tt) ready.given.blinders;
        answers = call.done accepted;
      }

  answered-call : {d : Blinders} {r : FourAnswers} → Answered S c a s r d → Gives S c a s r d
  answered-call {d} h =
      let accepted = passes h.words in
      record {
        number_and_place = sym ((proper-answers sound c a d s).fine_if_accepted accepted);
        done = λ _. h.answers;
        none = λ refused. absurd (not_both accepted refused);
      }

  -- every triple of field words is answered, with one answer
  pub calls-answered : (d : Blinders) → Words S.p (blinder_words d) → Exactly FourAnswers (λ r. Gives S c a s r d)
  calls-answered d words =
      let (r, is) = answers_exist sound formed a d s given.rows_hold in
      record {
        one = r;
        has = answered-call (record { words = words; answers = is });
        no_other = λ x h. answers_unique sound formed a d s (call-answered h).answers is;
      }

  -- exactly one fourth word passes the tablet's check beside any three
  pub calls-only-fourth : (v1 v2 v3 : ℕ) → Exactly ℕ (IsFourth S c (public_section S.p c a) s v1 v2 v3)
  calls-only-fourth = only-fourth sound formed (public_section S.p c a) s (off_rows sound formed s given.point)

  pub calls_any_three : (v1 v2 v3 : ℕ) → v1 < S.p → v2 < S.p → v3 < S.p → Exactly Blinders (GivesThree S c a s v1 v2 v3)
  calls_any_three v1 v2 v3 w1 w2 w3 =
      let three = any_three sound formed a s (off_rows sound formed s given.point) given.rows_hold v1 v2 v3 w1 w2 w3 in
      record {
        one = three.one;
        has = record { fourth = three.has.fourth; gives = answered-call three.has.answered };
        no_other = λ x h. three.no_other x (record { fourth = h.fourth; answered = call-answered h.gives });
      }

-- the fourth is the one word that follows from circuit, public section, point and the first three (`Demand3.only-fourth`)
pub calls-fourth : {S : Setting} (sound : Sound S) (c a : List ℕ) (d : Blinders) (s : ℕ) (r : FourAnswers) → AnswersCall S c a d s fine r →
    IsFourth S c (public_section S.p c a) s r.first r.second r.third r.fourth
calls-fourth {S} sound c a d s r call =
    let accepted : Accepted (answers_verdict S c a d s) = rw (← call.number_and_place) accepted-fine in
    let circuit = (answers_ready S c a d s accepted).given.circuit in
    fourth_follows sound (circuit-formed c circuit).formed a (public_section S.p c a) (same-section sound c a d s r call) (call.done accepted)

pub calls_same : {S : Setting} (sound : Sound S) (c a b : List ℕ) (s : ℕ) → Satisfied S c a s → Satisfied S c b s → SamePublic c a b →
    {d : Blinders} {r : FourAnswers} → Gives S c a s r d → Exactly Blinders (Gives S c b s r)
calls_same sound c a b s given given' same call =
    let formed = (circuit-formed c given.circuit).formed in
    let other = same_answers sound formed a b same given'.rows_hold
    s (off_rows sound formed s given.point) (call-answered sound c a s given call).answers in
    record {
      one = other.one;
      has = answered-call sound c b s given' other.has;
      no_other = λ x h. other.no_other x (call-answered sound c b s given' h);
    }
