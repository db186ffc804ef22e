-- A turn writes one number and its space; the last number has the newline behind it.
use Rattle.std.proofs.Common.{◌-◌, length, arith, rules, length-take}
use Rattle.text.proofs.TextLaws.{spaces-more, line-last, line-none, then_more, widened, handed_back}
use Rattle.text.proofs.put_line.Goals as goal

pub returns-in_default : goal.returns-in_default
returns-in_default c = handed_back (widened c.put.ensures.text (line-none _ c.in_default.len_below) (omega arith)) (search rules)

pub loop-word-preserved : goal.loop-word-preserved
loop-word-preserved c = record {
  same = search rules;
  long = search rules;
  text = widened (then_more c.loop-word.invariant.text c.put_number.ensures.text) (spaces-more _ _ c.loop-word-test.true) (omega arith);
}

pub returns : goal.returns
returns c =
    let words = c.args.words.now in
    let m = length words - 1 in
    let all = line-last words c.loop-word.word-index m (omega arith) c.loop-word-test.false in
    handed_back (widened (then_more c.loop-word.invariant.text c.put_number-2.ensures.text) all (omega (arith, length-take m words))) (search rules)
