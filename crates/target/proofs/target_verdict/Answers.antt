-- The checks in their order.
use native.Mathlib.Omega.{arith}
use Rattle.outcome.proofs.Asked.{asked}
use Rattle.algebra.proofs.Consecutive.{length-row_points}
use Rattle.qap.specs.Refusals.{target_verdict}
use Rattle.target.proofs.target_verdict.Goals as goal

pub returns-in_err-require : goal.returns-in_err-require
unfolding target_verdict
returns-in_err-require c = rw (length-row_points _) (grind (arith, asked))

pub returns : goal.returns
unfolding target_verdict
returns c = rw (length-row_points _) (grind (arith, asked))
