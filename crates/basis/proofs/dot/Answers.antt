-- A turn adds one product to the sum.
use native.Mathlib.Numerals.{add-one}
use borrow.Author.Rules.{rules}
use Rattle.algebra.specs.Combination.{total}
use Rattle.algebra.proofs.Congruence.{≈_refl, ≈-plus, ≈-reduced}
use Rattle.field.specs.Field.{p}
use Rattle.basis.proofs.dot.Goals as goal

pub loop-i-init : goal.loop-i-init
unfolding total
loop-i-init c = search rules

pub loop-i-preserved : goal.loop-i-preserved
unfolding total
loop-i-preserved c = rw (c.add_scaled-sum.ensures, c.loop-i.invariant, add-one) (≈-plus (≈-reduced p _) (≈_refl p _)).same
