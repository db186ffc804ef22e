-- Row i at point i is a sound setting over every field prime, so over the calls'; and what its points are: as many as rows, and a
-- point is one of them where it is 1 to m, which is the test that code makes. RULES 4, RULES 6.
use mathlib.Core.Bool.{Bool, true, false}
use mathlib.Core.List.{List}
use mathlib.Core.Path.{◌≡◌, refl, sym}
use Prim.Native.Nat.{ℕ, ◌+◌, ◌-◌, ◌<◌}
use native.Mathlib.Nat.{le_of_eq}
use native.Mathlib.Omega.{arith}
use lib.ListN.{length, get_or}
use Rattle.outcome.specs.Verdict.{Accepted, Within, within}
use Rattle.outcome.proofs.Verdict.{within_true, true_within}
use Rattle.algebra.specs.Prime.{FieldPrime}
use Rattle.algebra.specs.Points.{row_points, among}
use Rattle.algebra.proofs.Consecutive.{length-row_points, row_points_at, distinct-row_points}
use Rattle.algebra.proofs.Among.{among_at, among_some}
use Rattle.field.proofs.PrimeField.{field_prime}
use Rattle.circuit.specs.Circuit.{rows}
use Rattle.qap.specs.Setting.{Sound, points_of, row_setting, standard}
use Rattle.qap.specs.Polynomials.{quotient_length}
use Rattle.qap.specs.Refusals.{target_verdict}
use Rattle.qap.proofs.Settings.{target-size}

pub row-sound : {p : ℕ} → FieldPrime p → Sound (row_setting p)
row-sound field = record {
  field = field;
  sound_points = λ m range. record {
    words = record {
      below = λ i l. let inside : i < m = omega (arith, length-row_points m) in
          rw (row_points_at m i inside) (omega (arith, range.at_most, field.above));
    };
    distinct = distinct-row_points m (omega (arith, range.at_most, field.above));
    enough = le_of_eq (sym (length-row_points m));
    few = omega (arith, length-row_points m, range.at_most);
  };
}

pub sound : Sound standard
sound = row-sound field_prime

pub count-points : (p : ℕ) (c : List ℕ) → length (points_of (row_setting p) c) ≡ rows c
count-points p c = length-row_points (rows c)

-- words of the target and of the quotient: one more than there are rows

pub target-words : (p m size : ℕ) → Accepted (target_verdict (row_setting p) m size) → size ≡ m + 1
target-words p m size h = omega (arith, target-size (row_setting p) m size h, length-row_points m)

pub quotient-words : (p : ℕ) (c : List ℕ) → quotient_length (row_setting p) c ≡ rows c + 1
quotient-words p c = omega (arith, count-points p c)

-- two tests that pass alike
alike : (a b : Bool) → (a ≡ true → b ≡ true) → (b ≡ true → a ≡ true) → a ≡ b
alike true b h k = sym (h refl)
alike false true h k = k refl
alike false false h k = refl

pub among-rows : (s m : ℕ) → among s (row_points m) ≡ within 1 s m
among-rows s m = alike (among s (row_points m)) (within 1 s m)
    (λ h.
    let (i, l, e) = among_some s (row_points m) h in
    let inside : i < m = omega (arith, length-row_points m) in
    let place = row_points_at m i inside in
    let range : Within 1 s m = record { at_least = omega arith; at_most = omega arith } in
    within_true range)
    (λ h.
    let range = true_within 1 s m h in
    let inside : s - 1 < m = omega (arith, range.at_least, range.at_most) in
    let same : get_or (row_points m) (s - 1) 0 ≡ s = omega (arith, row_points_at m (s - 1) inside, range.at_least) in
    rw same at (among_at (row_points m) (s - 1) (omega (arith, length-row_points m))))
