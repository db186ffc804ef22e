-- The basis values fill the front of a room; with them the three public parts at s, and the words' equality.
use mathlib.Core.Path.{◌≡◌}
use native.Mathlib.Omega.{arith}
use lib.ListN.{length, take}
use Rattle.slices.proofs.Rooms.{cut}
use Rattle.circuit.specs.Circuit.{rows}
use Rattle.circuit.proofs.Formed.{circuit-formed}
use Rattle.qap.proofs.Settings.{check_ready}
use Rattle.qap.specs.Setting.{standard}
use Rattle.field.proofs.PrimeField.{field_prime}
use Rattle.answer_check.proofs.AnswerChecks.{given, public-value, answers_decided}
use Rattle.answer_check.proofs.answers_agree.Goals as goal

pub returns : goal.returns
returns c =
    let s = c.args.s in
    let q = c.publics_of-q.ensures in
    let size : length (take c.rows_of-m.result c.room-room.result) ≡ rows c.args.circuit.now = grind (arith, cut, given) in
    let basis = rw size at c.basis_values-z.ensures in
    answers_decided field_prime (circuit-formed _ (check_ready standard _ _ _ _ c.requires).circuit).formed _ s _ basis (public-value field_prime s q basis c.part_value-part_a.ensures)
    (public-value field_prime s q basis c.part_value-part_b.ensures) (public-value field_prime s q basis c.part_value-part_c.ensures) c.words_agree.ensures
