-- The outcome's place is small.
use Rattle.rowprover.proofs.Small.{near-check, near-judged}
use Rattle.rowprover.proofs.rowprover_check.Goals as goal

pub integer-requires : goal.integer-requires
integer-requires c = rw c.from.ensures (near-judged (near-check _ _ _) c.check_bytes.ensures).near

pub returns : goal.returns
returns c = record { outcome = c.from.result; judged = rw c.from.ensures c.check_bytes.ensures; returned = c.integer.ensures }
