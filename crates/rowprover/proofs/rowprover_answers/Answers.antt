-- The outcome's place is small.
use Rattle.rowprover.proofs.Small.{near-answers}
use Rattle.rowprover.proofs.rowprover_answers.Goals as goal

pub integer-requires : goal.integer-requires
integer-requires c = rw (c.from.ensures, c.answers_bytes.ensures.number_and_place) (near-answers _ _).near

pub returns : goal.returns
returns c = record { outcome = c.from.result; filled = rw c.from.ensures c.answers_bytes.ensures; returned = c.integer.ensures }
