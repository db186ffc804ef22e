-- A turn takes the part from i on times X − x, in place.
use mathlib.Core.Path.{◌≡◌, ◌∙◌}
use Prim.Native.Nat.{suc, ◌+◌, ◌-◌, ◌<◌}
use native.Mathlib.Omega.{arith}
use lib.ListN.{length, drop}
use lib.Seq.{drop-cons}
use Rattle.field.specs.Field.{p}
use Rattle.algebra.specs.Points.{consecutive}
use Rattle.poly.specs.Factor.{times_factor}
use Rattle.poly.specs.Interpolation.{powers}
use Rattle.poly.proofs.Slices.{back-part}
use Rattle.poly.proofs.interpolation.expand_powers.Goals as goal

pub loop-i-preserved : goal.loop-i-preserved
unfolding powers consecutive
loop-i-preserved c =
    let now = c.loop-i in
    let v = c.args.v.now in
    let j = now.i - 1 in
    let x = c.args.first + j in
    let i-is : now.i ≡ suc j = omega arith in
    let next : c.args.first + suc j ≡ suc x = omega arith in
    let left : length v - j ≡ suc (length v - suc j) = omega arith in
    let here : j < length v = omega arith in
    let done = powers p (consecutive (suc x) (length v - suc j)) (drop (suc j) v) in
    back-part v j here done (λ part. times_factor p x part) (rw (i-is, next) at now.invariant) c.times_factor.ensures ∙
    rw (left, drop-cons v j 0)
