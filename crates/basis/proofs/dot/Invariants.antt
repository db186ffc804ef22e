-- Invariant: sum is the sum of the first i products.
use mathlib.Core.Path.{◌≡◌}
use Prim.Native.Nat.{◌*◌, ◌%◌}
use lib.ListN.{get_or}
use Rattle.algebra.specs.Combination.{total}
use Rattle.field.specs.Field.{p}
use Rattle.basis.proofs.dot.Given as goal

abbrev pub invariant-loop-i : goal.invariant-loop-i
invariant-loop-i l = l.sum ≡ total (λ j. get_or l.y j 0 * get_or l.b j 0) l.i % p
