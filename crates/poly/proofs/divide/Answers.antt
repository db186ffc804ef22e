-- A turn makes one quotient word: the part from i on, lent to add_scaled, loses that multiple of the divisor.
use mathlib.Core.Path.{◌≡◌, ◌∙◌}
use mathlib.Core.List.{◌∷◌, ◌++◌}
use Prim.Native.Nat.{suc, ◌-◌, ◌<◌}
use native.Mathlib.Omega.{arith}
use lib.ListN.{length, take, drop, get_or}
use lib.Seq.{drop-cons}
use Rattle.algebra.specs.Congruence.{◌≈⟨◌⟩◌, negative}
use Rattle.field.specs.Field.{p}
use Rattle.poly.specs.AddScaled.{scaled}
use Rattle.poly.specs.Division.{divide_once, division}
use Rattle.poly.proofs.ScaledLaws.{scaled-same}
use Rattle.poly.proofs.Slices.{minus-same, back-part, back-later}
use Rattle.poly.proofs.divide.Goals as goal

pub loop-i-preserved : goal.loop-i-preserved
unfolding division divide_once
loop-i-preserved c =
    let now = c.loop-i in
    let room = c.args.room.now in
    let low = c.args.low.now in
    let n = length room - length low in
    let j = now.i - 1 in
    let i-is : now.i ≡ suc j = omega arith in
    let left : n - j ≡ suc (n - suc j) = omega arith in
    let here : j < length room = omega arith in
    let done = division p low (n - suc j) (drop (suc j) room) in
    let so_far : now.room ≡ take (suc j) room ++ done = rw i-is at now.invariant in
    let k = c.minus-k.result in
    let same : k ≈⟨ p ⟩ negative p (get_or (get_or room j 0 ∷ done) (length low) 0) =
    minus-same _ (rw (so_far, back-later room j here done (length low)) at c.minus-k.ensures) in
    back-part room j here done (λ part. scaled p k low part) so_far c.add_scaled.ensures ∙
    rw (scaled-same same, left, drop-cons room j 0)
