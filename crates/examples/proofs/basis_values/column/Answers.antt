-- The target and the weights are made for as many points as the column has words.
use mathlib.Core.Path.{◌≡◌}
use Prim.Native.Nat.{◌-◌}
use native.Mathlib.Omega.{arith}
use lib.ListN.{length}
use Rattle.examples.proofs.basis_values.column.Goals as goal

pub column_through-requires : goal.column_through-requires
column_through-requires c =
    let made = c.before in
    let start = made.before.before.before.before.before.before.before in
    let points : length start.args.z.now - 1 ≡ length start.args.out.now = omega (arith, start.requires) in (
      start.requires.2,
      record {
        few = start.requires.1;
        is_target = rw points at made.target.ensures;
        are_weights = rw start.requires.4 at c.weights.ensures;
      },
    )
