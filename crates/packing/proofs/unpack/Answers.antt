use Rattle.std.proofs.Common.{arith, length}
use Rattle.std.proofs.lemmas.Grind.{same_number_lists}
use Rattle.packing.proofs.PackingLaws.{length-unpacked, word-unpacked}
use Rattle.packing.proofs.unpack.Goals as goal

pub returns : goal.returns
returns c =
    let words = c.loop-i.words in
    let size = length-unpacked c.args.bytes.now (length words) (omega arith) in
    same_number_lists words _ (omega arith)
    (λ k h. grind (arith, c.loop-i.invariant k, word-unpacked c.args.bytes.now k))
