-- A row that fails refuses with no answers; else the row sums serve the fourth answer.
use native.Mathlib.Omega.{arith}
use Rattle.outcome.proofs.Verdict.{accepted-both}
use Rattle.outcome.proofs.Asked.{asked}
use Rattle.qap.specs.Refusals.{answers_verdict}
use Rattle.answers.proofs.Refusing.{rows-refused, rows_answered}
use Rattle.answers.proofs.answer_rows.Goals as goal

pub returns-in_err-rows_verdict : goal.returns-in_err-rows_verdict
returns-in_err-rows_verdict c =
    rows-refused (grind (arith, asked)) (grind (arith, asked)) (grind (arith, asked))

pub four_answers-requires : goal.four_answers-requires
unfolding answers_verdict
four_answers-requires c =
    let (given, pointed) = c.requires in
    record {
      accepted = accepted-both given (accepted-both pointed (record { is_zero = grind (arith, asked) }));
      sums = c.rows_verdict.ensures.sums;
    }

pub returns : goal.returns
returns c = rows_answered (grind (arith, asked)) c.four_answers.ensures
