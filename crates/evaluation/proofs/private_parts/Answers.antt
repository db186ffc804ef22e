-- Three parts, each with its multiple of z added.
use mathlib.Core.List.{List}
use mathlib.Core.Path.{◌≡◌}
use Prim.Native.Nat.{ℕ, ◌<◌}
use native.Mathlib.Omega.{arith}
use lib.ListN.{length}
use Rattle.circuit.specs.Circuit.{rows, publics, columns}
use Rattle.circuit.specs.WellFormed.{Formed}
use Rattle.assignment.specs.WellFormed.{AssignmentFormed}
use Rattle.rows.proofs.Parts.{span_private}
use Rattle.field.specs.Field.{p}
use Rattle.evaluation.specs.Values.{PartGiven}
use Rattle.field.proofs.PrimeField.{field_prime}
use Rattle.evaluation.proofs.BlindedValues.{three_at}
use Rattle.evaluation.proofs.private_parts.Goals as goal

given : {c a basis : List ℕ} {q n matrix : ℕ} → Formed p c × AssignmentFormed p c a × (length basis ≡ rows c) → q ≡ publics c → n ≡ columns c →
    matrix < 3 → PartGiven p c a matrix q n basis
given pre first last below = record {
  circuit = pre.0;
  of_three = below;
  span = rw (first, last) (span_private pre.0 pre.1);
  size = pre.2;
}

pub part_value-requires : goal.part_value-requires
part_value-requires c = given c.requires c.publics_of-q.ensures c.columns_of-n.ensures (omega arith)

pub part_value-requires-2 : goal.part_value-requires-2
part_value-requires-2 c = given c.requires c.publics_of-q.ensures c.columns_of-n.ensures (omega arith)

pub part_value-requires-3 : goal.part_value-requires-3
part_value-requires-3 c = given c.requires c.publics_of-q.ensures c.columns_of-n.ensures (omega arith)

pub returns : goal.returns
returns c =
    let q = c.publics_of-q.ensures in
    let n = c.columns_of-n.ensures in
    record {
      at = λ s basis. three_at field_prime basis c.args.d (rw (q, n) at (c.part_value.ensures.at s basis.values)) (rw (q, n) at (c.part_value-2.ensures.at s basis.values))
          (rw (q, n) at (c.part_value-3.ensures.at s basis.values)) c.blinded.ensures;
    }
