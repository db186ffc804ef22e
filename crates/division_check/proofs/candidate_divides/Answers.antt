-- The dividend's words are compared with those of the target times the candidate.
use native.Mathlib.Omega.{arith}
use Rattle.outcome.proofs.Asked.{asked}
use Rattle.slices.proofs.Rooms.{cut}
use Rattle.field.proofs.PrimeField.{field_prime}
use Rattle.qap.specs.Refusals.{check_division_verdict}
use Rattle.refusals.proofs.Ready.{given}
use Rattle.division_check.proofs.DivisionChecks.{candidate-size, alike, division_decided}
use Rattle.division_check.proofs.candidate_divides.Goals as goal

pub product-right-requires : goal.product-right-requires
unfolding check_division_verdict
product-right-requires c =
    let size = candidate-size field_prime _ _ _ _ c.requires in
    (grind (arith, asked, cut, given), grind (arith, asked, cut, given, size))

pub returns : goal.returns
returns c =
    let (made, dividend) = c.with_target-left.ensures in
    division_decided field_prime _ _ _ _ c.requires made dividend c.product-right.ensures (alike c.eq.ensures)
