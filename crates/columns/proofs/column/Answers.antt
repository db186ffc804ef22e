-- Refused by the verdict, or one column is filled.
use mathlib.Core.Path.{refl}
use native.Mathlib.Omega.{arith}
use lib.ListN.{length}
use Rattle.outcome.proofs.Asked.{asked}
use Rattle.circuit.proofs.Formed.{circuit-formed}
use Rattle.qap.proofs.Columns.{column_asked}
use Rattle.qap.proofs.Filling.{filled-done}
use Rattle.qap.specs.Setting.{standard}
use Rattle.field.specs.Field.{p}
use Rattle.qap.proofs.Standard.{count-points}
use Rattle.columns.proofs.ColumnLaws.{one-column}
use Rattle.columns.proofs.column.Goals as goal

pub fill_columns-requires : goal.fill_columns-requires
fill_columns-requires c =
    let here = column_asked standard c.args.circuit.now c.args.matrix c.args.column (length c.args.out.now) (record { is_zero = grind (arith, asked) }) in
    let formed = (circuit-formed _ here.circuit).formed in
    record {
      circuit = formed;
      of_three = omega (arith, here.of_three);
      few = omega (arith, here.among.at_most, formed.column_count.at_most);
      size = omega (arith, here.exact, count-points p c.args.circuit.now);
    }

pub returns : goal.returns
returns c = filled-done _ (grind (arith, asked)) _ _ refl (λ h. (one-column c.fill_columns.ensures))
