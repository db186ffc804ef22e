-- What a sound setting and accepted inputs give: distinct points, no more public columns than columns, and a target that is not 0 at
-- a point on no row. RULES 6.
use mathlib.Core.Bool.{true, not}
use mathlib.Core.Path.{◌≡◌}
use mathlib.Core.List.{List}
use Prim.Native.Nat.{ℕ, ◌+◌, ◌-◌, ◌<◌, ◌≤◌}
use native.Mathlib.Omega.{arith}
use lib.ListN.{length, get_or}
use borrow.Author.Tests.{leb-true, eqb-true}
use lib.Dec.{leb, eqb}
use Rattle.outcome.specs.Verdict.{Accepted, Within, within}
use Rattle.outcome.proofs.Verdict.{accepted-parts, require-accepted, true_within}
use Rattle.algebra.specs.Prime.{Prime}
use Rattle.algebra.specs.Congruence.{◌≈⟨◌⟩◌}
use Rattle.algebra.specs.Polynomial.{value}
use Rattle.algebra.specs.Points.{Distinct, among}
use Rattle.algebra.proofs.Congruence.{≈-words}
use Rattle.algebra.proofs.Inverse.{positive}
use Rattle.algebra.proofs.Target.{target-only}
use Rattle.algebra.proofs.Among.{among_at}
use Rattle.circuit.specs.Circuit.{listed_rows, rows}
use Rattle.circuit.specs.Reader.{circuit_verdict}
use Rattle.circuit.specs.WellFormed.{Formed}
use Rattle.circuit.proofs.Rows.{listed_rows_lem, row_range}
use Rattle.assignment.specs.Assignment.{words_verdict, assignment_verdict, public_verdict}
use Rattle.rows.specs.Rows.{rows_verdict}
use Rattle.qap.specs.Setting.{Setting, SoundPoints, Sound, points_of}
use Rattle.qap.specs.Polynomials.{target_of, blinder_words, quotient_length}
use Rattle.qap.specs.Refusals.{answer_words, point_verdict, length_verdict, target_verdict, ready_verdict, quotient_verdict, answers_verdict, check_answers_verdict, check_division_verdict}
use Rattle.qap.specs.declared.Blinders.{Blinders}
use Rattle.qap.specs.declared.FourAnswers.{FourAnswers}

pub exact-length : (given wanted : ℕ) → Accepted (length_verdict given wanted) → given ≡ wanted
unfolding length_verdict
exact-length given wanted h = eqb-true given wanted (require-accepted (eqb given wanted) 8 wanted (omega arith) h)

pub target_range : (S : Setting) (m size : ℕ) → Accepted (target_verdict S m size) → Within 1 m 256
unfolding target_verdict
target_range S m size h = true_within 1 m 256 (require-accepted (within 1 m 256) 2 0 (omega arith) (accepted-parts h).0)

pub target-size : (S : Setting) (m size : ℕ) → Accepted (target_verdict S m size) → size ≡ length (S.points m) + 1
unfolding target_verdict
target-size S m size h = exact-length size (length (S.points m) + 1) (accepted-parts h).1

module _ {S : Setting} (sound : Sound S) where
  pub prime : Prime S.p
  prime = sound.field.prime

  pub p_positive : 0 < S.p
  p_positive = positive prime

  module _ {c : List ℕ} (formed : Formed S.p c) where
    pub circuit-points : SoundPoints S.p (rows c) (points_of S c)
    circuit-points = sound.sound_points (rows c) (row_range formed)

    pub distinct-points : Distinct S.p (points_of S c)
    distinct-points = circuit-points.distinct

    pub listed-points : listed_rows c ≤ length (points_of S c)
    listed-points = omega (arith, listed_rows_lem c, circuit-points.enough)

    pub some_points : 0 < length (points_of S c)
    some_points = omega (arith, (row_range formed).at_least, circuit-points.enough)

    -- a point that is accepted is a field word on no row
    pub point-word : (s : ℕ) → Accepted (point_verdict S c s) → s < S.p
    unfolding point_verdict
    point-word s h =
        omega (arith, leb-true s (S.p - 1) (require-accepted (leb s (S.p - 1)) 11 0 (omega arith) (accepted-parts h).0), p_positive)

    pub off_rows : (s : ℕ) → Accepted (point_verdict S c s) → value (target_of S c) s ≈⟨ S.p ⟩ 0 → ⊥
    unfolding point_verdict
    off_rows s h zero =
        let (i, l, e) = target-only prime (points_of S c) s zero in
        let same : s ≡ get_or (points_of S c) i 0 = ≈-words e (point-word s h) (circuit-points.words.below i l) in
        let inside : among s (points_of S c) ≡ true = rw same (among_at (points_of S c) i l) in
        let outside : not (among s (points_of S c)) ≡ true = require-accepted (not (among s (points_of S c))) 11 0 (omega arith) (accepted-parts h).1 in
        let contrary : ◌≡◌ {A = ℕ} 0 1 = cc (rw inside at outside) in
        omega arith

-- what is known past each call's refusals

pub record Ready (S : Setting) (c a : List ℕ) (d : Blinders) : Type 0 where
  pub circuit : Accepted (circuit_verdict S.p c)
  pub assignment : Accepted (assignment_verdict S.p c a)
  pub blinders : Accepted (words_verdict S.p 12 0 (blinder_words d))

pub ready : (S : Setting) (c a : List ℕ) (d : Blinders) → Accepted (ready_verdict S c a d) → Ready S c a d
unfolding ready_verdict
ready S c a d h =
    let one = accepted-parts h in
    let two = accepted-parts one.1 in
    record { circuit = one.0; assignment = two.0; blinders = two.1 }

pub record QuotientReady (S : Setting) (c a : List ℕ) (d : Blinders) (size : ℕ) : Type 0 where
  pub given : Ready S c a d
  pub exact : size ≡ quotient_length S c
  pub rows_hold : Accepted (rows_verdict S.p c a)

pub quotient_ready : (S : Setting) (c a : List ℕ) (d : Blinders) (size : ℕ) → Accepted (quotient_verdict S c a d size) → QuotientReady S c a d size
unfolding quotient_verdict
quotient_ready S c a d size h =
    let one = accepted-parts h in
    let two = accepted-parts one.1 in
    record { given = ready S c a d one.0; exact = exact-length size (quotient_length S c) two.0; rows_hold = two.1 }

pub record AnswersReady (S : Setting) (c a : List ℕ) (d : Blinders) (s : ℕ) : Type 0 where
  pub given : Ready S c a d
  pub point : Accepted (point_verdict S c s)
  pub rows_hold : Accepted (rows_verdict S.p c a)

pub answers_ready : (S : Setting) (c a : List ℕ) (d : Blinders) (s : ℕ) → Accepted (answers_verdict S c a d s) → AnswersReady S c a d s
unfolding answers_verdict
answers_ready S c a d s h =
    let one = accepted-parts h in
    let two = accepted-parts one.1 in
    record { given = ready S c a d one.0; point = two.0; rows_hold = two.1 }

pub record CheckReady (S : Setting) (c b : List ℕ) (s : ℕ) (r : FourAnswers) : Type 0 where
  pub circuit : Accepted (circuit_verdict S.p c)
  pub section : Accepted (public_verdict S.p c b)
  pub answers : Accepted (words_verdict S.p 12 0 (answer_words r))
  pub point : Accepted (point_verdict S c s)

pub check_ready : (S : Setting) (c b : List ℕ) (s : ℕ) (r : FourAnswers) → Accepted (check_answers_verdict S c b s r) → CheckReady S c b s r
unfolding check_answers_verdict
check_ready S c b s r h =
    let one = accepted-parts h in
    let two = accepted-parts one.1 in
    let three = accepted-parts two.1 in
    record { circuit = one.0; section = two.0; answers = three.0; point = three.1 }

pub record DivisionReady (S : Setting) (c a : List ℕ) (d : Blinders) (h : List ℕ) : Type 0 where
  pub given : Ready S c a d
  pub candidate : Accepted (words_verdict S.p 12 3 h)
  pub exact : length h ≡ quotient_length S c

pub division_ready : (S : Setting) (c a : List ℕ) (d : Blinders) (h : List ℕ) → Accepted (check_division_verdict S c a d h) → DivisionReady S c a d h
unfolding check_division_verdict
division_ready S c a d h accepted =
    let one = accepted-parts accepted in
    let two = accepted-parts one.1 in
    record { given = ready S c a d one.0; candidate = two.0; exact = exact-length (length h) (quotient_length S c) two.1 }
