-- A turn puts a 0 in front of the target so far and takes it times X − x, in place.
use mathlib.Core.Path.{◌≡◌}
use mathlib.Core.List.{List}
use Prim.Native.Nat.{ℕ, suc, ◌+◌, ◌-◌, ◌<◌}
use native.Mathlib.Omega.{arith}
use lib.ListN.{length, take, drop, set, length-set}
use lib.Seq.{drop_at, length-take-le}
use Rattle.std.proofs.lemmas.List.{drop-set}
use Rattle.algebra.specs.Points.{consecutive, target}
use Rattle.field.specs.Field.{p}
use Rattle.poly.specs.Factor.{times_factor}
use Rattle.poly.proofs.Slices.{lent_back}
use Rattle.poly.proofs.FactorLaws.{factor-target}
use Rattle.poly.proofs.target_from.Goals as goal

pub loop-i-preserved : goal.loop-i-preserved
unfolding consecutive
loop-i-preserved c =
    let now = c.loop-i in
    let first = c.args.first in
    let last = length c.args.z.now - 1 in
    let j = now.i - 1 in
    let z = set now.z j 0 in
    let i-is : now.i ≡ j + 1 = omega arith in
    let next : first + (j + 1) ≡ suc (first + j) = omega arith in
    let left : last - j ≡ suc (last - (j + 1)) = omega arith in
    let here : j < length now.z = omega (arith, length-set c.args.z.now last 1) in
    let so_far : drop (j + 1) now.z ≡ target p (consecutive (suc (first + j)) (last - (j + 1))) = rw (i-is, next) at now.invariant in
    let back = lent_back (λ (part : List ℕ). times_factor p (first + j) part) z j c.times_factor.ensures in
    rw (
      back,
      drop_at (take j z) (times_factor p (first + j) (drop j z)) j (length-take-le j z (omega (arith, length-set now.z j 0))),
      left,
      drop-set now.z j 0 here,
      so_far,
    )
    (factor-target {p = p} (omega arith) (first + j) _)
