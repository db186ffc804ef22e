-- The answer check's equality (RULES 5) from words: with the public parts at s added, the words agree
-- exactly where the answers do.
use mathlib.Core.Bool.{Bool}
use mathlib.Core.Path.{◌≡◌, sym, ◌∙◌}
use mathlib.Core.List.{List}
use Prim.Native.Nat.{ℕ, ◌+◌, ◌*◌, ◌%◌, ◌≤◌}
use lib.ListN.{length}
use Rattle.circuit.proofs.Formed.{circuit-formed}
use Rattle.circuit.proofs.Rows.{row_range}
use Rattle.qap.specs.Refusals.{check_answers_verdict}
use Rattle.qap.proofs.Settings.{check_ready}
use Rattle.algebra.specs.Congruence.{◌≈⟨◌⟩◌}
use Rattle.algebra.specs.Polynomial.{value}
use Rattle.algebra.proofs.Congruence.{≈_refl, ≈_sym, ≈_trans, ≈-plus, ≈-product, ≈-reduced}
use Rattle.algebra.specs.Prime.{FieldPrime}
use Rattle.basis.specs.BasisAt.{BasisAt}
use Rattle.circuit.specs.Circuit.{rows, publics}
use Rattle.evaluation.specs.Values.{PartAt, PartValue}
use Rattle.qap.specs.declared.FourAnswers.{FourAnswers}
use Rattle.qap.specs.Polynomials.{PublicPart, target_of}
use Rattle.qap.specs.Answers.{AnswersAgree}
use Rattle.field.specs.Field.{p as prime}
use Rattle.field.proofs.PrimeField.{field_prime}
use Rattle.assignment.proofs.Accepted.{public_formed}
use Rattle.rows.specs.Sums.{Span}
use Rattle.rows.proofs.Parts.{span-public}
use Rattle.circuit.specs.WellFormed.{Formed}
use Rattle.qap.proofs.Standard.{row-sound}
use Rattle.qap.proofs.Parts.{part_exists}
use Rattle.refusals.specs.Decides.{Decides}
use Rattle.refusals.proofs.Deciding.{decides-other}
use Rattle.qap.specs.Setting.{row_setting, standard}

-- reduced words are equal exactly where what they stand for is congruent
module _ (p : ℕ) (r : FourAnswers) (part-a part-b part_c z : ℕ) {u v t x y : ℕ} (first : u ≡ (r.first + part-a) % p) (second : v ≡ (r.second + part-b) % p)
    (third : t ≡ (r.third + part_c) % p) (left : x ≡ (u * v) % p) (right : y ≡ (t + z * r.fourth) % p) where
  left_word : x ≡ ((r.first + part-a) * (r.second + part-b)) % p
  left_word = left ∙ rw (first, second) (≈-product (≈-reduced p (r.first + part-a)) (≈-reduced p (r.second + part-b))).same

  right-word : y ≡ ((r.third + part_c) + z * r.fourth) % p
  right-word = right ∙ rw third (≈-plus (≈-reduced p (r.third + part_c)) (≈_refl p (z * r.fourth))).same

  pub same-words : x ≡ y → (r.first + part-a) * (r.second + part-b) ≈⟨ p ⟩ (r.third + part_c) + z * r.fourth
  same-words e = record { same = sym left_word ∙ e ∙ right-word }

  pub words_same : (r.first + part-a) * (r.second + part-b) ≈⟨ p ⟩ (r.third + part_c) + z * r.fourth → x ≡ y
  words_same e = left_word ∙ e.same ∙ sym right-word

-- what the accepted verdict says, as `grind` takes it
pub given : (c b : List ℕ) (s : ℕ) (r : FourAnswers) → (check_answers_verdict standard c b s r).number ≡ 0 →
    ((check_answers_verdict standard c b s r).number ≡ 0) × (3 ≤ length c) × (1 ≤ rows c) × (rows c ≤ 256) × Formed prime c × Span c b 0 (publics c)
given c b s r e =
    let known = check_ready standard c b s r (record { is_zero = e }) in
    let formed = (circuit-formed c known.circuit).formed in (
      e,
      formed.counts,
      (row_range formed).at_least,
      (row_range formed).at_most,
      formed,
      span-public formed (public_formed field_prime c b known.section),
    )

module _ {p : ℕ} (field : FieldPrime p) where
  -- the words of the public parts at s
  abbrev PublicAt : List ℕ → List ℕ → ℕ → ℕ → ℕ → Type 0
  PublicAt c b matrix s x = PartAt p c b matrix 0 (publics c) s x

  pub public-value : {c b basis : List ℕ} {matrix q x z : ℕ} (s : ℕ) → q ≡ publics c → BasisAt p (rows c) s basis z →
      PartValue p c b matrix 0 q basis x → PublicAt c b matrix s x
  public-value s count at found f part = found.at s at.values f (rw count part)

  module _ {c : List ℕ} (formed : Formed p c) (b : List ℕ) where
    module _ (s : ℕ) (r : FourAnswers) {basis : List ℕ} {z A B C : ℕ} (at : BasisAt p (rows c) s basis z)
        (first : PublicAt c b 0 s A) (second : PublicAt c b 1 s B) (third : PublicAt c b 2 s C) where
      near : {matrix x : ℕ} {f : List ℕ} → PublicAt c b matrix s x → PublicPart (row_setting p) c b matrix f → x ≈⟨ p ⟩ value f s
      near {f = f} v part = rw (v f part) (≈-reduced p (value f s))

      target-near : z ≈⟨ p ⟩ value (target_of (row_setting p) c) s
      target-near = rw at.target_at (≈-reduced p (value (target_of (row_setting p) c) s))

      module _ {f g h : List ℕ} (F : PublicPart (row_setting p) c b 0 f) (G : PublicPart (row_setting p) c b 1 g) (H : PublicPart (row_setting p) c b 2 h) where
        left_near : (r.first + A) * (r.second + B) ≈⟨ p ⟩ (r.first + value f s) * (r.second + value g s)
        left_near = ≈-product (≈-plus (≈_refl p r.first) (near first F)) (≈-plus (≈_refl p r.second) (near second G))

        right_near : (r.third + C) + z * r.fourth ≈⟨ p ⟩ (r.third + value h s) + value (target_of (row_setting p) c) s * r.fourth
        right_near = ≈-plus (≈-plus (≈_refl p r.third) (near third H)) (≈-product target-near (≈_refl p r.fourth))

      pub answers_decided : {x : Bool} → Decides ((r.first + A) * (r.second + B) ≈⟨ p ⟩ (r.third + C) + z * r.fourth) x →
          Decides (AnswersAgree (row_setting p) c b s r) x
      answers_decided = decides-other
          (λ e.
          let (f, F) = part_exists (row-sound field) formed b 0 0 (publics c) in
          let (g, G) = part_exists (row-sound field) formed b 1 0 (publics c) in
          let (h, H) = part_exists (row-sound field) formed b 2 0 (publics c) in
          record {
            A = f;
            B = g;
            C = h;
            public_a = F;
            public_b = G;
            public_c = H;
            equal = ≈_trans (≈_sym (left_near F G H)) (≈_trans e (right_near F G H));
          })
          (λ agree.
          let F = agree.public_a in
          let G = agree.public_b in
          let H = agree.public_c in
          ≈_trans (left_near F G H) (≈_trans agree.equal (≈_sym (right_near F G H))))
