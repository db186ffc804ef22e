-- The target has one word more than there are points.
use mathlib.Core.Path.{◌≡◌, ◌∙◌}
use Prim.Native.Nat.{◌-◌}
use native.Mathlib.Omega.{arith}
use borrow.Author.Rules.{rules}
use lib.ListN.{length}
use Rattle.columns.proofs.matrix.prepare.Goals as goal

pub returns : goal.returns
returns c =
    let m : length c.args.z.now - 1 ≡ length c.args.weights.now = omega arith in
    record { few = search rules; is_target = c.target.ensures ∙ rw m; are_weights = c.weights.ensures }
