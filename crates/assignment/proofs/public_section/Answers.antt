-- Accepted words have a count q and at least q + 1 words; refused ones hand out nothing.
use mathlib.Core.Path.{sym}
use lib.Seq.{length-take-le}
use native.Mathlib.Omega.{arith}
use Rattle.outcome.specs.Verdict.{Accepted}
use Rattle.outcome.proofs.Verdict.{accepted_new, refused_old}
use Rattle.outcome.proofs.Asked.{asked}
use Rattle.circuit.specs.WellFormed.{WellFormed}
use Rattle.field.specs.Field.{p}
use Rattle.field.proofs.PrimeField.{field_prime}
use Rattle.assignment.specs.Assignment.{circuit_then_assignment, public_section}
use Rattle.assignment.specs.WellFormed.{AssignmentFormed}
use Rattle.assignment.proofs.Accepted.{both-formed}
use Rattle.assignment.proofs.public_section.Goals as goal
use Rattle.assignment.proofs.public_section.Goals.{Else-is_err}

accepted : (c : Else-is_err) → Accepted (circuit_then_assignment p c.args.circuit.now c.args.values.now)
accepted c = record { is_zero = grind (arith, asked) }

formed : (c : Else-is_err) → let args = c.args in
    WellFormed p args.circuit.now × AssignmentFormed p args.circuit.now args.values.now
formed c = both-formed field_prime _ _ (accepted c)

pub returns-then-is_err : goal.returns-then-is_err
unfolding public_section
returns-then-is_err c = sym (refused_old _ _ (record { is_positive = grind (arith, asked) }))

pub slice_bounds-result-end-2 : goal.slice_bounds-result-end-2
slice_bounds-result-end-2 c =
    let here = formed (goal.at.slice_bounds-result-end-2 c).Else-is_err in sym (length-take-le _ _ (omega (arith, c.publics_of-end.ensures)))

pub returns : goal.returns
unfolding public_section
returns c =
    rw c.publics_of-end.ensures (sym (accepted_new _ _ (accepted (goal.at.returns c).Else-is_err)))

pub publics_of-end-requires : goal.publics_of-end-requires
publics_of-end-requires c = (formed c).0.formed.counts

pub overflow_add-end : goal.overflow_add-end
overflow_add-end c = let here = formed (goal.at.overflow_add-end c).Else-is_err in omega arith
