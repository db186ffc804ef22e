-- Both sides are reduced words.
use Rattle.refusals.proofs.Deciding.{decides_equal}
use Rattle.field.specs.Field.{p}
use Rattle.answer_check.proofs.AnswerChecks.{same-words, words_same}
use Rattle.answer_check.proofs.words_agree.Goals as goal

pub returns : goal.returns
returns c =
    let args = c.args in
    decides_equal _ _
    (same-words p args.r args.part_a args.part_b args.part_c args.z c.plus-u.ensures c.plus-v.ensures c.plus-t.ensures
    c.times.ensures c.add_scaled.ensures)
    (words_same p args.r args.part_a args.part_b args.part_c args.z c.plus-u.ensures c.plus-v.ensures c.plus-t.ensures
    c.times.ensures c.add_scaled.ensures)
