-- The four answers: public and private parts make the whole, so the first three with the public parts added are
-- A'(s), B'(s), C'(s), and the answer check's equality is that of the quotient at s. RULES 5.
use mathlib.Core.Path.{◌≡◌, sym}
use mathlib.Core.List.{List}
use Prim.Native.Nat.{ℕ, suc, ◌+◌, ◌*◌, ◌-◌, ◌%◌}
use native.Mathlib.Nat.{le_of_eq}
use native.Mathlib.Omega.{arith}
use Rattle.algebra.specs.Congruence.{◌≈⟨◌⟩◌}
use Rattle.algebra.specs.Polynomial.{value, sum}
use Rattle.algebra.specs.Blinding.{blinded}
use Rattle.algebra.proofs.Congruence.{≈-eq, ≈_sym, ≈_trans, ≈-plus, ≈-times, ≈-product, ≈-reduced, by}
use Rattle.algebra.proofs.Polynomial.{length-sum, value-sum}
use Rattle.algebra.proofs.Same.{≋-value}
use Rattle.algebra.proofs.Roots.{same-values}
use Rattle.algebra.proofs.Combination.{total-≈}
use Rattle.algebra.proofs.Blinding.{divides-value}
use Rattle.algebra.proofs.Blinders.{blinded-value}
use Rattle.circuit.specs.Circuit.{publics}
use Rattle.rows.specs.Rows.{row_sum}
use Rattle.rows.proofs.Parts.{parts_whole}
use Rattle.circuit.specs.WellFormed.{Formed}
use Rattle.qap.specs.Setting.{Setting, Sound, points_of}
use Rattle.qap.specs.Polynomials.{Whole, PublicPart, PrivatePart, target_of, blinder_a, blinder_b, blinder_c}
use Rattle.qap.specs.Answers.{IsAnswers, AnswersAgree}
use Rattle.qap.specs.Demands.{SamePublic}
use Rattle.qap.specs.declared.Blinders.{Blinders}
use Rattle.qap.specs.declared.FourAnswers.{FourAnswers}
use Rattle.qap.proofs.Settings.{prime, distinct-points}
use Rattle.qap.proofs.Parts.{part-through, through-part, part_exists}

module _ {S : Setting} (sound : Sound S) {c : List ℕ} (formed : Formed S.p c) (a : List ℕ) where
  -- the public parts rest on the public values alone
  pub public-same : {b : List ℕ} → SamePublic c a b → {matrix : ℕ} {f : List ℕ} → PublicPart S c a matrix f → PublicPart S c b matrix f
  unfolding row_sum
  public-same {b} same {matrix} r =
      let t = part-through r in
      through-part sound formed b matrix 0 (publics c) (record {
        size = t.size;
        words = t.words;
        takes = λ i l. ≈_trans (t.takes i l) (total-≈ (publics c - 0) (λ k less.
            ≈-eq S.p (rw (same.values (suc (0 + k)) (omega arith) (omega arith)))));
      })

  -- the whole at any s is the public part and the private part
  pub whole-value : {matrix : ℕ} {f g h : List ℕ} → Whole S c a matrix f → PublicPart S c a matrix g → PrivatePart S c a matrix h → (s : ℕ) →
      value f s ≈⟨ S.p ⟩ value g s + value h s
  whole-value {matrix} {f} {g} {h} rf rg rh s =
      let F = part-through rf in
      let G = part-through rg in
      let H = part-through rh in
      let same = same-values (prime sound) (points_of S c) f (sum g h) (distinct-points sound formed) (le_of_eq F.size)
      (simp length-sum (omega (arith, G.size, H.size)))
      (λ i l. rw value-sum (≈_trans (F.takes i l) (≈_trans (≈-eq S.p (sym (parts_whole c a formed.public_count.at_most matrix (suc i))))
      (≈_sym (≈-plus (G.takes i l) (H.takes i l)))))) in
      ≈_trans (≋-value same s) (≈-eq S.p (value-sum g h s))

  -- an answer with the public part added is the blinded polynomial at s
  pub answer_value : {matrix : ℕ} {f g h : List ℕ} → Whole S c a matrix f → PublicPart S c a matrix g → PrivatePart S c a matrix h → (s : ℕ) (d : List ℕ) {r : ℕ} →
      r ≡ (value h s + value d s * value (target_of S c) s) % S.p → r + value g s ≈⟨ S.p ⟩ value (blinded S.p (points_of S c) f d) s
  answer_value {matrix} {f} {g} {h} rf rg rh s d {r} e =
      let plain : r ≈⟨ S.p ⟩ value h s + value d s * value (target_of S c) s = rw e (≈-reduced S.p (value h s + value d s * value (target_of S c) s)) in
      rw (blinded-value S.p (points_of S c) f d s) (by (≈-plus plain (≈_sym (whole-value rf rg rh s))) (omega arith))

  pub answers_agree : {d : Blinders} {s : ℕ} {r : FourAnswers} → IsAnswers S c a d s r → AnswersAgree S c a s r
  answers_agree {d} {s} {r} h =
      let q = h.quotient_h in
      let (A, public_a) = part_exists sound formed a 0 0 (publics c) in
      let (B, public_b) = part_exists sound formed a 1 0 (publics c) in
      let (C, public_c) = part_exists sound formed a 2 0 (publics c) in
      let u = answer_value q.whole_a public_a h.private_a s (blinder_a d) h.first in
      let v = answer_value q.whole_b public_b h.private_b s (blinder_b d) h.second in
      let t = answer_value q.whole_c public_c h.private_c s (blinder_c d) h.third in
      let z = value (target_of S c) s in
      let last : r.fourth ≈⟨ S.p ⟩ value h.H s = rw h.fourth (≈-reduced S.p (value h.H s)) in
      record {
        A = A;
        B = B;
        C = C;
        public_a = public_a;
        public_b = public_b;
        public_c = public_c;
        equal = ≈_trans (≈-product u v) (≈_trans (divides-value q.quotient.divides s) (≈_sym (≈-plus t (≈-times z last))));
      }
