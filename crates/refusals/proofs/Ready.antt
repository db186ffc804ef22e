-- What the refusals leave that are judged first, as `grind` takes it. RULES 6.
use mathlib.Core.Path.{◌≡◌}
use mathlib.Core.List.{List}
use Prim.Native.Nat.{ℕ, ◌≤◌}
use lib.ListN.{length}
use Rattle.circuit.specs.Circuit.{rows}
use Rattle.circuit.specs.WellFormed.{Formed}
use Rattle.circuit.proofs.Rows.{row_range}
use Rattle.circuit.proofs.Formed.{circuit-formed}
use Rattle.assignment.specs.WellFormed.{AssignmentFormed}
use Rattle.assignment.proofs.Accepted.{assignment_formed}
use Rattle.field.specs.Field.{p}
use Rattle.field.proofs.PrimeField.{field_prime}
use Rattle.qap.specs.declared.Blinders.{Blinders}
use Rattle.qap.specs.Refusals.{ready_verdict}
use Rattle.qap.specs.Setting.{standard}
use Rattle.qap.proofs.Settings.{ready}

pub given : (c a : List ℕ) (d : Blinders) → (ready_verdict standard c a d).number ≡ 0 →
    ((ready_verdict standard c a d).number ≡ 0) × (3 ≤ length c) × (1 ≤ rows c) × (rows c ≤ 256) × Formed p c × AssignmentFormed p c a
given c a d e =
    let known = ready standard c a d (record { is_zero = e }) in
    let formed = (circuit-formed c known.circuit).formed in
    (e, formed.counts, (row_range formed).at_least, (row_range formed).at_most, formed, assignment_formed field_prime c a known.assignment)
