-- The two branches are the two cases of the definition.
use mathlib.Core.Path.{sym}
use native.Mathlib.Omega.{arith}
use Rattle.assignment.proofs.Assigned.{public_at, private_at}
use Rattle.rows.proofs.assigned_at.Goals as goal

pub returns-then-column-publics_of : goal.returns-then-column-publics_of
returns-then-column-publics_of c = sym (public_at _ _ (omega arith))

pub returns : goal.returns
returns c = sym (private_at _ _ (omega arith))
