-- The checks in their order; a point of the standard setting is one of 1 to m.
use native.Mathlib.Omega.{arith}
use Rattle.outcome.proofs.Asked.{asked}
use Rattle.circuit.proofs.Rows.{row_range}
use Rattle.qap.specs.Refusals.{point_verdict}
use Rattle.qap.proofs.Standard.{among-rows}
use Rattle.refusals.proofs.point_verdict.Goals as goal

pub returns-in_err-require : goal.returns-in_err-require
unfolding point_verdict
returns-in_err-require c = rw (among-rows _ _) (grind (arith, asked))

pub returns : goal.returns
unfolding point_verdict
returns c = rw (among-rows _ _) (grind (arith, asked))

pub overflow_cast-m : goal.overflow_cast-m
overflow_cast-m c = omega (arith, c.rows_of-m.ensures, (row_range c.requires).at_most)
