-- The basis values fill the front of a room. Past the refusals the points are distinct and Z(s) is not 0; the law does the rest.
use mathlib.Core.Path.{◌≡◌}
use mathlib.Core.List.{List}
use Prim.Native.Nat.{ℕ}
use native.Mathlib.Omega.{arith}
use lib.ListN.{length, take}
use Rattle.slices.proofs.Rooms.{cut}
use Rattle.outcome.specs.Verdict.{Accepted}
use Rattle.outcome.proofs.Asked.{asked}
use Rattle.algebra.specs.Congruence.{◌≈⟨◌⟩◌}
use Rattle.algebra.specs.Polynomial.{value}
use Rattle.algebra.proofs.Congruence.{≈_sym, ≈_trans, ≈-reduced}
use Rattle.field.specs.Field.{p}
use Rattle.field.proofs.PrimeField.{field_prime}
use Rattle.circuit.specs.Circuit.{rows}
use Rattle.circuit.specs.WellFormed.{Formed}
use Rattle.circuit.proofs.Formed.{circuit-formed}
use Rattle.rows.proofs.Holds.{accepted-holds}
use Rattle.qap.specs.declared.Blinders.{Blinders}
use Rattle.qap.specs.Polynomials.{target_of}
use Rattle.qap.specs.Refusals.{answers_verdict}
use Rattle.qap.specs.Setting.{standard}
use Rattle.qap.proofs.Standard.{sound}
use Rattle.qap.proofs.Settings.{answers_ready, off_rows}
use Rattle.refusals.proofs.Ready.{given}
use Rattle.answers.proofs.SumsCount.{sums_count}
use Rattle.answers.proofs.FourLaws.{four_answers}
use Rattle.answers.proofs.four_answers.Goals as goal

module _ (c a : List ℕ) (d : Blinders) (s : ℕ) (accepted : Accepted (answers_verdict standard c a d s)) where
  formed : Formed p c
  formed = (circuit-formed c (answers_ready standard c a d s accepted).given.circuit).formed

  off : value (target_of standard c) s ≈⟨ p ⟩ 0 → ⊥
  off = off_rows sound formed s (answers_ready standard c a d s accepted).point

pub quotient_value-requires : goal.quotient_value-requires
unfolding answers_verdict
quotient_value-requires c = λ zero.
    let size : length (take (length c.args.sums_a.now) c.room-room.result) ≡ rows c.args.circuit.now = grind (arith, asked, cut, given, sums_count) in
    let is-z = (rw size at c.basis_values-z.ensures).target_at in
    off _ _ _ _ c.requires.accepted (≈_trans (≈_sym (≈-reduced p (value (target_of standard c.args.circuit.now) c.args.s))) (rw is-z at zero))

pub returns : goal.returns
unfolding answers_verdict
returns c =
    let size : length (take (length c.args.sums_a.now) c.room-room.result) ≡ rows c.args.circuit.now = grind (arith, asked, cut, given, sums_count) in
    let basis = rw size at c.basis_values-z.ensures in
    let begun = formed _ _ _ _ c.requires.accepted in
    let mine = c.private_parts-private.ensures.at c.args.s basis in
    let whole = c.whole_values-whole.ensures.at c.args.circuit.now c.args.values.now c.args.s begun c.requires.sums basis in
    let q = c.quotient_value.ensures in
    four_answers field_prime begun _ c.args.d c.args.s (off _ _ _ _ c.requires.accepted)
    (accepted-holds p _ _ (answers_ready standard _ _ _ _ c.requires.accepted).rows_hold) mine whole basis.target_at q.word q.divides
