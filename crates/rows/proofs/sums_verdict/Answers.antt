-- A row that holds passes one place more; one that fails is the first fault.
use mathlib.Core.Path.{◌≡◌}
use native.Mathlib.Omega.{arith}
use borrow.Author.Rules.{rules}
use lib.Dec.{lit<}
use Rattle.outcome.specs.Verdict.{outcome_of}
use Rattle.outcome.proofs.Verdict.{proper-require}
use Rattle.outcome.proofs.Scan.{begin, go_on, stop, end}
use Rattle.outcome.proofs.Asked.{asked}
use Rattle.rows.specs.Sums.{sums_verdict}
use Rattle.rows.proofs.sums_verdict.Invariants.{each}
use Rattle.rows.proofs.sums_verdict.Goals as goal

pub returns-in_err-require : goal.returns-in_err-require
unfolding sums_verdict
returns-in_err-require c =
    let found : outcome_of c.from_residual.result ≡ each c.args.a.now c.args.b.now c.args.c.now c.loop-i.i = grind (arith, asked) in
    stop _ _ c.loop-i.invariant (search rules) (record { is_positive = grind (arith, asked) }) found

pub loop-i-preserved : goal.loop-i-preserved
loop-i-preserved c = go_on _ _ c.loop-i.invariant (search rules) (record { is_zero = grind (arith, asked) })

pub returns : goal.returns
unfolding sums_verdict
returns c = end _ _ c.loop-i.invariant (search rules) (λ i l. proper-require _ _ _ (lit< tt))

pub loop-i-init : goal.loop-i-init
loop-i-init c = begin _ _
