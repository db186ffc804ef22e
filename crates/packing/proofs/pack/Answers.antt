-- A turn writes the four bytes of one word behind those before.
use Rattle.std.proofs.Common.{◌≡◌, ◌∙◌, ℕ, ◌+◌, ◌*◌, ◌<◌, ◌≤◌, List, ◌++◌, length, get_or, take, drop, arith, add-one, append_assoc, append-nil, drop-cons}
use Rattle.std.proofs.lemmas.List.{take_all}
use Rattle.std.proofs.lemmas.Slice.{take-put_mid}
use Rattle.std.proofs.Math.ListN.{drop_of_length-le}
use Rattle.std.specs.Int.{w32, to_le_bytes}
use borrow.Rule.Slice.PartMut.{put_mid}
use Rattle.packing.specs.Packing.{packed}
use Rattle.packing.proofs.pack.Goals as goal

step : (words bytes four : List ℕ) (i k : ℕ) → i < length words → 4 * i + 4 ≤ length bytes → four ≡ to_le_bytes w32 (get_or words i 0) →
    take (4 * (i + 1)) (put_mid (4 * i) k bytes four) ++ packed (drop (i + 1) words) ≡ take (4 * i) bytes ++ packed (drop i words)
unfolding packed
step words bytes four i k h fits is =
    let front = take-put_mid (4 * i) k bytes (to_le_bytes w32 (get_or words i 0)) (4 * (i + 1)) (omega arith) (omega arith) in
    rw (is, front, append_assoc, add-one, drop-cons words i 0 h)

pub loop-i-preserved : goal.loop-i-preserved
loop-i-preserved c =
    step _ c.loop-i.bytes _ c.loop-i.i _ (omega arith) (omega arith) (c.copy_from_slice.ensures.after ∙ c.to_le_bytes.ensures) ∙ c.loop-i.invariant

pub returns : goal.returns
unfolding packed
returns c =
    let words = c.args.words.now in
    let none : length words ≤ c.loop-i.i = omega arith in
    rw (drop_of_length-le words none, append-nil, take_all (4 * c.loop-i.i) c.loop-i.bytes (omega arith)) at c.loop-i.invariant
