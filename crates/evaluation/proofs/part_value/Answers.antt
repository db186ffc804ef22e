-- The row sums fill the front of a room, as many as there are basis values.
use Rattle.field.proofs.PrimeField.{field_prime}
use Rattle.evaluation.proofs.PartValues.{part_at}
use Rattle.evaluation.proofs.part_value.Goals as goal

pub returns : goal.returns
returns c = record { at = part_at field_prime _ _ _ _ _ c.requires.circuit _ _ c.row_sums.ensures c.dot.ensures }
