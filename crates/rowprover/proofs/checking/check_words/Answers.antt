-- Each word read is the one that the bytes unpack to.
use native.Mathlib.Omega.{arith}
use Rattle.packing.proofs.PackingLaws.{word-unpacked}
use Rattle.rowprover.proofs.checking.check_words.Goals as goal

pub returns : goal.returns
returns c =
    let b = c.args.query.now in
    let size = c.requires in
    rw (
      word-unpacked b 0 (omega arith),
      word-unpacked b 1 (omega arith),
      word-unpacked b 2 (omega arith),
      word-unpacked b 3 (omega arith),
      word-unpacked b 4 (omega arith),
      ← c.word_at-5.ensures,
      ← c.word_at-4.ensures,
      ← c.word_at-3.ensures,
      ← c.word_at-2.ensures,
      ← c.word_at.ensures,
    ) c.check_answers.ensures
