-- Accepted words are well formed.
use Rattle.assignment.proofs.Accepted.{both-formed}
use Rattle.field.proofs.PrimeField.{field_prime}
use Rattle.examples.proofs.row_sums.whole.Goals as goal

pub rows_verdict-requires : goal.rows_verdict-requires
rows_verdict-requires c =
    let both = both-formed field_prime _ _ c.requires.accepted in
    record { formed = (both.0.formed, both.1); lengths = c.requires.lengths }
