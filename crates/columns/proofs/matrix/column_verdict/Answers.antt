-- The checks in their order; the counts are read once the circuit is accepted.
use native.Mathlib.Omega.{arith}
use Rattle.outcome.proofs.Asked.{asked}
use Rattle.field.specs.Field.{p}
use Rattle.circuit.specs.WellFormed.{Formed}
use Rattle.circuit.proofs.Formed.{formed_behind}
use Rattle.qap.specs.Refusals.{column_verdict}
use Rattle.qap.proofs.Standard.{count-points}
use Rattle.columns.proofs.matrix.column_verdict.Goals as goal
use Rattle.columns.proofs.matrix.column_verdict.Goals.{In_ok-matrix_verdict}

formed : (c : In_ok-matrix_verdict) → Formed p c.args.circuit.now
formed c = formed_behind _ (grind (arith, asked))

pub returns-in_err-matrix_verdict : goal.returns-in_err-matrix_verdict
unfolding column_verdict
returns-in_err-matrix_verdict c = grind (arith, asked)

pub columns_of-n-requires : goal.columns_of-n-requires
columns_of-n-requires c = (formed c).counts

pub overflow_cast-n : goal.overflow_cast-n
overflow_cast-n c = omega (arith, c.columns_of-n.ensures, (formed (goal.at.overflow_cast-n c).In_ok-matrix_verdict).column_count.at_most)

pub rows_of-m-requires : goal.rows_of-m-requires
rows_of-m-requires c = (formed (goal.at.rows_of-m-requires c).In_ok-matrix_verdict).counts

pub returns-in_err-require : goal.returns-in_err-require
unfolding column_verdict
returns-in_err-require c = rw (count-points p _) (grind (arith, asked))

pub returns : goal.returns
unfolding column_verdict
returns c = rw (count-points p _) (grind (arith, asked))
