-- A turn brings the factor −(k + 1) into the product, and minus the inverse of k + 1 into the weight.
use Prim.Native.Nat.{◌<◌}
use native.Mathlib.Numerals.{add-one}
use native.Mathlib.Omega.{arith}
use borrow.Author.Rules.{rules}
use lib.Seq.{get_or-take}
use Rattle.algebra.proofs.Congruence.{≈_refl}
use Rattle.algebra.specs.Basis.{descent}
use Rattle.field.specs.Field.{p}
use Rattle.basis.proofs.WeightLaws.{one_more}
use Rattle.basis.proofs.first_weight.Goals as goal

pub loop-inverse-init : goal.loop-inverse-init
unfolding descent
loop-inverse-init c = record { word = search rules; leaves_one = ≈_refl p 1 }

pub loop-inverse-preserved : goal.loop-inverse-preserved
unfolding descent
loop-inverse-preserved c =
    let now = c.loop-inverse in
    let k = now.inverse-index in
    let inside : k < c.args.after = omega arith in
    rw add-one
    (one_more {p = p} (omega arith) now.invariant (c.requires.1.inverse k (omega arith)) (rw get_or-take at c.times-weight.ensures))
