-- Refused by the verdict, or all columns are filled.
use mathlib.Core.Path.{refl, ◌∙◌}
use native.Mathlib.Omega.{arith}
use lib.ListN.{length}
use Rattle.outcome.proofs.Asked.{asked}
use Rattle.circuit.proofs.Formed.{circuit-formed}
use Rattle.field.specs.Field.{p}
use Rattle.qap.specs.Setting.{standard}
use Rattle.qap.proofs.Columns.{ColumnsAsked, columns_asked}
use Rattle.qap.proofs.Filling.{filled-done}
use Rattle.qap.proofs.Standard.{count-points}
use Rattle.columns.proofs.ColumnLaws.{all_columns}
use Rattle.columns.proofs.columns.Goals as goal
use Rattle.columns.proofs.columns.Goals.{In_ok-columns_verdict}

all : (c : In_ok-columns_verdict) → ColumnsAsked standard c.args.circuit.now c.args.matrix (length c.args.out.now)
all c = columns_asked standard _ _ _ (record { is_zero = grind (arith, asked) })

pub columns_of-n-requires : goal.columns_of-n-requires
columns_of-n-requires c = (circuit-formed _ (all c).circuit).formed.counts

pub fill_columns-requires : goal.fill_columns-requires
fill_columns-requires c =
    let here = all (goal.at.fill_columns-requires c).In_ok-columns_verdict in
    let formed = (circuit-formed _ here.circuit).formed in
    let n = c.columns_of-n.ensures in
    record {
      circuit = formed;
      of_three = omega (arith, here.of_three);
      few = omega (arith, n, formed.column_count.at_most);
      size = here.exact ∙ rw (count-points p _, n);
    }

pub returns : goal.returns
returns c = filled-done _ (grind (arith, asked)) _ _ refl (λ h. (all_columns (rw c.columns_of-n.ensures at c.fill_columns.ensures)))
