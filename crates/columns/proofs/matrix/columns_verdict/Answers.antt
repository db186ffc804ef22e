-- As for one column, without its number; the product of two counts is small.
use native.Mathlib.Nat.{mul-le-mul}
use native.Mathlib.Omega.{arith}
use Rattle.outcome.proofs.Asked.{asked}
use Rattle.field.specs.Field.{p}
use Rattle.circuit.specs.WellFormed.{Formed}
use Rattle.circuit.proofs.Formed.{formed_behind}
use Rattle.circuit.proofs.Rows.{row_range}
use Rattle.qap.specs.Refusals.{columns_verdict}
use Rattle.qap.proofs.Standard.{count-points}
use Rattle.columns.proofs.matrix.columns_verdict.Goals as goal
use Rattle.columns.proofs.matrix.columns_verdict.Goals.{In_ok-matrix_verdict}

formed : (c : In_ok-matrix_verdict) → Formed p c.args.circuit.now
formed c = formed_behind _ (grind (arith, asked))

pub returns-in_err-matrix_verdict : goal.returns-in_err-matrix_verdict
unfolding columns_verdict
returns-in_err-matrix_verdict c = grind (arith, asked)

pub columns_of-n-requires : goal.columns_of-n-requires
columns_of-n-requires c = (formed c).counts

pub rows_of-m-requires : goal.rows_of-m-requires
rows_of-m-requires c = (formed (goal.at.rows_of-m-requires c).In_ok-matrix_verdict).counts

pub overflow_mul-n : goal.overflow_mul-n
overflow_mul-n c =
    let here = formed (goal.at.overflow_mul-n c).In_ok-matrix_verdict in
    rw (c.columns_of-n.ensures, c.rows_of-m.ensures)
    (omega (arith, mul-le-mul here.column_count.at_most (row_range here).at_most))

pub returns : goal.returns
unfolding columns_verdict
returns c = rw (count-points p _, ← c.columns_of-n.ensures, ← c.rows_of-m.ensures) (grind (arith, asked))
