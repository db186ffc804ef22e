-- The promises of specs/Promises.antt, each by one theorem, for every sound setting; and all of them for the setting of the calls.
use mathlib.Core.Path.{◌≡◌, sym, ◌∙◌}
use mathlib.Core.List.{List}
use mathlib.Core.Logic.{⊎_elim}
use Prim.Native.Nat.{ℕ}
use borrow.Author.Tests.{eq-eqb}
use lib.ListN.{length}
use Rattle.outcome.specs.declared.Outcome.{Outcome}
use Rattle.outcome.specs.Verdict.{fine, Accepted, Refused}
use Rattle.outcome.proofs.Verdict.{accepted-fine, accepted-both, accepted_or_refused, accepted-require, not_both, Proper}
use Rattle.algebra.specs.Polynomial.{Words}
use Rattle.circuit.specs.WellFormed.{Formed}
use Rattle.circuit.proofs.Formed.{circuit-formed}
use Rattle.assignment.proofs.Accepted.{words-accepted}
use Rattle.qap.specs.Setting.{Setting, Sound, standard}
use Rattle.qap.specs.Polynomials.{quotient_length}
use Rattle.qap.specs.Refusals.{length_verdict, ready_verdict, check_division_verdict}
use Rattle.qap.specs.Calls.{Filled, CheckDivisionCall}
use Rattle.qap.specs.Demands.{Satisfied}
use Rattle.qap.specs.Promises.{Keeps, Fills, RefusalsKept, ResultsRight, QuotientGiven, QuotientFormula, DivisionChecked, TabletAccepts, TellsNothing, OneResult, Promises}
use Rattle.qap.specs.declared.Blinders.{Blinders}
use Rattle.qap.proofs.Settings.{ready}
use Rattle.qap.proofs.PlaceZero.{proper-target, proper-column, proper-columns, proper-quotient}
use Rattle.qap.proofs.Standard.{sound}
use Rattle.qap.proofs.Quotients.{quotient-holds, candidate-quotient}
use Rattle.qap.proofs.Given.{holds-given, given_holds, fails-named}
use Rattle.qap.proofs.Demand2.{quotient_formula, quotient-unblinded}
use Rattle.qap.proofs.Checks.{passed_agrees, tablet_accepts, quotient-accepted, accepted-quotient}
use Rattle.qap.proofs.Columns.{column_determined, columns_determined}
use Rattle.qap.proofs.OneResult.{target_determined, quotient_determined, answers_determined, check_answers_determined, check_division_determined}
use Rattle.qap.proofs.Demand3Calls.{calls-answered, calls_any_three, calls-only-fourth, calls-fourth, calls_same}

-- a contract that is `Filled`
module _ {verdict : ℕ → Outcome} {Right : List ℕ → Type 0} where
  keeps : Keeps verdict (λ old new o. Filled (verdict (length old)) Right old new o)
  keeps = record { keeps = λ call refused. (call.number_and_place, call.kept refused) }

  fills : ((size : ℕ) → Proper (verdict size)) → Fills verdict Right (λ old new o. Filled (verdict (length old)) Right old new o)
  fills proper = record {
    right = λ call e. call.done (rw (sym call.number_and_place ∙ e) accepted-fine);
    done = λ {old} call accepted. call.number_and_place ∙ (proper (length old)).fine_if_accepted accepted;
  }

module _ {S : Setting} (sound : Sound S) where
  pub refusals_kept : RefusalsKept S
  refusals_kept = record {
    target = λ m. keeps;
    column = λ c matrix j. keeps;
    columns = λ c matrix. keeps;
    quotient = λ c a d. keeps;
    answers = λ call refused. (call.number_and_place, call.none refused);
    check_answers = λ call refused. call.refused refused;
    check_division = λ call refused. call.refused refused;
  }

  pub results_right : ResultsRight S
  results_right = record {
    target = λ m. fills (proper-target sound m);
    column = λ c matrix j. fills (proper-column sound c matrix j);
    columns = λ c matrix. fills (proper-columns sound c matrix);
    quotient = λ c a d. fills (proper-quotient sound c a d);
    answers = λ call e. call.done (rw (sym call.number_and_place ∙ e) accepted-fine);
  }

  module _ (c a : List ℕ) (d : Blinders) (accepted : Accepted (ready_verdict S c a d)) where
    formed : Formed S.p c
    formed = (circuit-formed c (ready S c a d accepted).circuit).formed

    sized : {n : ℕ} → n ≡ quotient_length S c → Accepted (length_verdict n (quotient_length S c))
    unfolding length_verdict
    sized e = accepted-require 8 _ (eq-eqb _ _ e)

    pub quotient-exactly : QuotientGiven S c a d
    quotient-exactly = record {
      given = λ call size hold. holds-given c a d call accepted (sized size) hold;
      only_then = λ call size e. given_holds c a d call accepted (sized size) e;
      named = λ call size broken. let (number, lowest, kept) = fails-named c a d call accepted (sized size) broken in (_, lowest, number, kept);
    }

    pub quotient_is : QuotientFormula S c a
    quotient_is = record { formula = quotient_formula sound formed; unblinded = quotient-unblinded sound formed }

    -- a list of the right length and words is past the check's refusals
    shaped : {h : List ℕ} → length h ≡ quotient_length S c → Words S.p h → Accepted (check_division_verdict S c a d h)
    unfolding check_division_verdict
    shaped size words = accepted-both accepted (accepted-both (words-accepted sound.field 12 3 words) (sized size))

    -- what is accepted was past them
    past : {h : List ℕ} {o : Outcome} → CheckDivisionCall S c a d h o → o ≡ fine → Accepted (check_division_verdict S c a d h)
    past {h} call e = ⊎_elim (λ good. good)
        (λ (bad : Refused (check_division_verdict S c a d h)). absurd (not_both (rw (sym (call.refused bad) ∙ e) accepted-fine) bad))
        (accepted_or_refused (check_division_verdict S c a d h))

    pub division_checked : DivisionChecked S c a d
    division_checked = record {
      accepts = λ {h} call q. quotient-accepted sound c a d h (shaped q.quotient.size q.quotient.words) call q;
      no_other = λ {h} call e. accepted-quotient sound c a d h (past call e) call e;
      given_accepted = λ {old} {h} made call.
          let q = made.done (rw (sym made.number_and_place) accepted-fine) in
          quotient-accepted sound c a d h (shaped q.quotient.size q.quotient.words) call q;
      broken = λ {h} call bad e. bad (quotient-holds sound formed a (accepted-quotient sound c a d h (past call e) call e));
      broken_false = λ {h} call bad size words.
          call.rejects (shaped size words) (λ k. bad (quotient-holds sound formed a (candidate-quotient sound formed a d size words k)));
    }

  pub box_and_tablet : TabletAccepts S
  box_and_tablet = record {
    passed_agrees = λ {c} {b} {s} {r} call. passed_agrees sound c b s r call;
    box_and_tablet = λ {c} {a} {d} {s} {r} call check. tablet_accepts sound c a d s r call check;
  }

  pub tells_nothing : (c a : List ℕ) (s : ℕ) → Satisfied S c a s → TellsNothing S c a s
  tells_nothing c a s given = record {
    answered = calls-answered sound c a s given;
    any_three = calls_any_three sound c a s given;
    fourth = calls-only-fourth sound c a s given;
    fourth_given = λ {d} {r} call. calls-fourth sound c a d s r call;
    same_answers = λ b given' same d words.
        let own = calls-answered sound c a s given d words in
        (own.one, own.has, calls_same sound c a b s given given' same own.has);
  }

  pub one_result : OneResult S
  one_result = record {
    target = λ m. record { same = target_determined sound m };
    column = λ c matrix j. record { same = column_determined sound c matrix j };
    columns = λ c matrix. record { same = columns_determined sound c matrix };
    quotient = λ c a d. record { same = quotient_determined sound c a d };
    answers = λ {c} {a} {d} {s} x y. answers_determined sound c a d s x y;
    check_answers = λ {c} {b} {s} {r} x y. check_answers_determined sound c b s r x y;
    check_division = λ {c} {a} {d} {h} x y. check_division_determined sound c a d h x y;
  }

  pub promises : Promises S
  promises = record {
    refusals_kept = refusals_kept;
    results_right = results_right;
    quotient_given = quotient-exactly;
    quotient_formula = quotient_is;
    division_checked = division_checked;
    tablet_accepts = box_and_tablet;
    tells_nothing = tells_nothing;
    one_result = one_result;
  }

-- for the setting that the calls' contracts cite
pub standard-promises : Promises standard
standard-promises = promises sound
