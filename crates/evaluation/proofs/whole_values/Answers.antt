-- Row sums times basis values, each with its multiple of z added.
use Rattle.circuit.specs.Circuit.{columns}
use Rattle.field.proofs.PrimeField.{field_prime}
use Rattle.evaluation.proofs.PartValues.{part_at}
use Rattle.evaluation.proofs.BlindedValues.{three_at}
use Rattle.evaluation.proofs.whole_values.Goals as goal

pub returns : goal.returns
returns c = record {
  at = λ k v s formed sums basis. three_at field_prime basis c.args.d
      (part_at field_prime k v 0 0 (columns k) formed _ _ sums.first c.dot.ensures s basis.values)
      (part_at field_prime k v 1 0 (columns k) formed _ _ sums.second c.dot-2.ensures s basis.values)
      (part_at field_prime k v 2 0 (columns k) formed _ _ sums.third c.dot-3.ensures s basis.values)
      c.blinded.ensures;
}
