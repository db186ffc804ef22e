-- A turn leaves the word at i and makes the words after it, which are lent, differences to it; they stay words below p.
use mathlib.Core.Path.{◌≡◌, ◌∙◌}
use mathlib.Core.List.{List, ◌++◌, append_assoc}
use Prim.Native.Nat.{ℕ, suc, ◌+◌, ◌-◌, ◌<◌}
use native.Mathlib.Omega.{arith}
use lib.ListN.{length, take, drop, get_or}
use Rattle.std.proofs.lemmas.List.{take_more, drop_more}
use lib.Seq.{take_at, drop_at, length-take-le}
use Rattle.field.specs.Field.{p}
use Rattle.poly.specs.Interpolation.{differences, newton}
use Rattle.poly.proofs.Slices.{lent_back}
use Rattle.poly.proofs.Words.{words_append, words_take, words-drop}
use Rattle.poly.proofs.InterpolationLaws.{words-differences}
use Rattle.poly.proofs.interpolation.divide_differences.Goals as goal

step : (t v : List ℕ) (n i : ℕ) {next : List ℕ} → i < length v → next ≡ take (i + 1) v ++ differences p t (get_or v i 0) (drop (i + 1) v) →
    take (i + 1) next ++ newton p t n (drop (i + 1) next) ≡ take i v ++ newton p t (suc n) (drop i v)
unfolding newton
step t v n i h e =
    let d = differences p t (get_or v i 0) (drop (i + 1) v) in
    let size : length (take (i + 1) v) ≡ i + 1 = length-take-le (i + 1) v (omega arith) in
    rw (e, take_at (take (i + 1) v) d (i + 1) size, drop_at (take (i + 1) v) d (i + 1) size, take_more v i 0 h, drop_more v i 0 h, append_assoc)

pub loop-i-preserved : goal.loop-i-preserved
loop-i-preserved c =
    let now = c.loop-i in
    let t = c.args.inverses.now in
    let i = now.i in
    let y = get_or now.v i 0 in
    let left : length c.args.v.now - i ≡ suc (length c.args.v.now - (i + 1)) = omega arith in
    let back = lent_back (λ (part : List ℕ). differences p t y part) now.v (i + 1) c.subtract_and_divide.ensures in
    record {
      words = rw back
          (words_append (take (i + 1) now.v) _ (words_take (i + 1) now.v now.invariant.words)
          (words-differences {p = p} (omega arith) t y (drop (i + 1) now.v) (words-drop (i + 1) now.v now.invariant.words)));
      done = step t now.v _ i (omega arith) back ∙ (rw left at now.invariant.done);
    }
