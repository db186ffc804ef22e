-- Where the rows hold, the quotient of the dividend is the definition's.
use mathlib.Core.Path.{◌∙◌}
use native.Mathlib.Omega.{arith}
use Rattle.outcome.proofs.Asked.{asked}
use Rattle.circuit.proofs.Formed.{circuit-formed}
use Rattle.rows.proofs.Holds.{accepted-holds}
use Rattle.field.specs.Field.{p}
use Rattle.field.proofs.PrimeField.{field_prime}
use Rattle.qap.specs.Refusals.{quotient_verdict}
use Rattle.qap.specs.Setting.{standard}
use Rattle.qap.proofs.Settings.{quotient_ready}
use Rattle.qap.proofs.Standard.{quotient-words}
use Rattle.refusals.proofs.Ready.{given}
use Rattle.dividend.proofs.QuotientLaws.{quotient_law}
use Rattle.quotient.proofs.fill_quotient.Goals as goal

pub take_quotient-requires : goal.take_quotient-requires
unfolding quotient_verdict
take_quotient-requires c =
    let count = c.rows_of-m.ensures in
    record {
      few = grind (arith, asked, given);
      is_target = rw count c.with_target-dividend.ensures.0;
      room = rw count ((quotient_ready standard _ _ _ _ c.requires).exact ∙ quotient-words p _);
    }

pub returns : goal.returns
returns c =
    let is = c.with_target-dividend.ensures.1 in
    let ready = quotient_ready standard _ _ _ _ c.requires in
    let formed = (circuit-formed _ ready.given.circuit).formed in
    let q = quotient_law field_prime formed _ c.args.d is.is_a' is.is_b' is.is_c' (accepted-holds p _ _ ready.rows_hold) in
    rw (c.take_quotient.ensures, c.rows_of-m.ensures, is.is_difference) q
