-- Refused by the checks before 10 with no answers; past them the rows decide.
use mathlib.Core.Path.{◌≡◌, sym, ◌∙◌}
use native.Mathlib.Omega.{arith}
use Rattle.outcome.proofs.Asked.{asked}
use Rattle.rows.specs.Rows.{rows_verdict}
use Rattle.qap.specs.Refusals.{answers_verdict}
use Rattle.field.specs.Field.{p}
use Rattle.qap.specs.Setting.{standard}
use Rattle.answers.proofs.Refusing.{call-refused}
use Rattle.answers.proofs.answers.Goals as goal

pub returns-in_err-ready_verdict : goal.returns-in_err-ready_verdict
unfolding answers_verdict
returns-in_err-ready_verdict c = call-refused (grind (arith, asked)) (grind (arith, asked)) (grind (arith, asked))

pub returns-in_err-point_verdict : goal.returns-in_err-point_verdict
unfolding answers_verdict
returns-in_err-point_verdict c = call-refused (grind (arith, asked)) (grind (arith, asked)) (grind (arith, asked))

pub returns : goal.returns
unfolding answers_verdict
returns c =
    let e : answers_verdict standard c.args.circuit.now c.args.values.now c.args.d c.args.s ≡ rows_verdict p c.args.circuit.now c.args.values.now =
    grind (arith, asked) in
    let found = c.answer_rows.ensures in
    record {
      number_and_place = found.number_and_place ∙ sym e;
      done = λ h. found.done (rw e at h);
      none = λ h. found.none (rw e at h);
    }
