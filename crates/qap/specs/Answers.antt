-- The four answers at a point, and what the two checks compare.
-- RULES 5.
use Rattle.std.specs.Prelude.{◌≡◌, List, ℕ, ◌+◌, ◌*◌, ◌%◌}
use Rattle.algebra.specs.Congruence.{◌≈⟨◌⟩◌}
use Rattle.algebra.specs.Polynomial.{value}
use Rattle.algebra.specs.Blinding.{Divides, blinded}
use Rattle.qap.specs.Setting.{Setting, points_of}
use Rattle.qap.specs.Polynomials.{Whole, PublicPart, PrivatePart, target_of, blinder_a, blinder_b, blinder_c, IsQuotient}
use Rattle.qap.specs.declared.Blinders.{Blinders}
use Rattle.qap.specs.declared.FourAnswers.{FourAnswers}

-- the private parts of A, B, C at s plus d1 Z(s), d2 Z(s), d3 Z(s); and H'(s)
pub record IsAnswers (S : Setting) (c a : List ℕ) (d : Blinders) (s : ℕ) (r : FourAnswers) : Type 0 where
  pub A : List ℕ
  pub B : List ℕ
  pub C : List ℕ
  pub H : List ℕ
  pub private_a : PrivatePart S c a 0 A
  pub private_b : PrivatePart S c a 1 B
  pub private_c : PrivatePart S c a 2 C
  pub quotient_h : IsQuotient S c a d H
  pub first : r.first ≡ (value A s + value (blinder_a d) s * value (target_of S c) s) % S.p
  pub second : r.second ≡ (value B s + value (blinder_b d) s * value (target_of S c) s) % S.p
  pub third : r.third ≡ (value C s + value (blinder_c d) s * value (target_of S c) s) % S.p
  pub fourth : r.fourth ≡ value H s % S.p

-- the answer check: with the public parts at s added to the first three, giving u, v, t, u v − t = Z(s) times the fourth
pub record AnswersAgree (S : Setting) (c b : List ℕ) (s : ℕ) (r : FourAnswers) : Type 0 where
  pub A : List ℕ
  pub B : List ℕ
  pub C : List ℕ
  pub public_a : PublicPart S c b 0 A
  pub public_b : PublicPart S c b 1 B
  pub public_c : PublicPart S c b 2 C
  pub equal : (r.first + value A s) * (r.second + value B s) ≈⟨ S.p ⟩ (r.third + value C s) + value (target_of S c) s * r.fourth

-- the division check: A'B' − C' = Z times the candidate, as polynomials
pub record CandidateDivides (S : Setting) (c a : List ℕ) (d : Blinders) (h : List ℕ) : Type 0 where
  pub A : List ℕ
  pub B : List ℕ
  pub C : List ℕ
  pub whole_a : Whole S c a 0 A
  pub whole_b : Whole S c a 1 B
  pub whole_c : Whole S c a 2 C
  pub divides : Divides S.p (points_of S c)
      (blinded S.p (points_of S c) A (blinder_a d))
      (blinded S.p (points_of S c) B (blinder_b d))
      (blinded S.p (points_of S c) C (blinder_c d))
      h
