-- The weights, then the two passes.
use native.Mathlib.Omega.{arith}
use Rattle.field.specs.Field.{p}
use Rattle.basis.proofs.PassLaws.{passes_at}
use Rattle.basis.proofs.basis_values.Goals as goal

pub returns : goal.returns
returns c =
    let up = c.times_before-target.ensures in
    passes_at p _ _ (omega arith) c.weights.ensures up.0 up.1 c.times_after.ensures
