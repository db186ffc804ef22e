-- Demand 3, over the definitions of demand 2 and any sound setting. For an accepted circuit, an assignment that satisfies every row and a
-- field point on no row: any three field values are the first three answers under exactly one blinder triple, the fourth follows
-- from circuit, public values, point and those three, and assignments with equal public values cannot be told apart.
-- Each blinder is the list through what it must take at the query points, of which there is one.
use mathlib.Core.Path.{◌≡◌, refl, ap}
use mathlib.Core.List.{List, [], ◌∷◌}
use Prim.Native.Nat.{ℕ, zero, suc, ◌+◌, ◌*◌, ◌%◌, ◌<◌}
use native.Mathlib.Nat.{mod-lt}
use native.Mathlib.Omega.{arith}
use lib.Dec.{lit<}
use lib.ListN.{length, get_or}
use lib.Seq.{ext_get_or}
use Rattle.algebra.specs.Congruence.{◌≈⟨◌⟩◌}
use Rattle.algebra.specs.Polynomial.{Words, value}
use Rattle.algebra.specs.Points.{Distinct}
use Rattle.algebra.specs.Blinding.{Blinds, blinded}
use Rattle.algebra.proofs.Congruence.{≈_sym, ≈_trans, ≈-plus, ≈-reduced, ≈-words, by}
use Rattle.algebra.proofs.Inverse.{solve, cancel}
use Rattle.algebra.proofs.Blinders.{blinded-value, blinder_exists, blinder_unique}
use Rattle.circuit.specs.Circuit.{publics, columns}
use Rattle.circuit.specs.WellFormed.{Formed}
use Rattle.rows.specs.Rows.{RowsHold}
use Rattle.qap.specs.Setting.{Setting, Sound, points_of}
use Rattle.qap.specs.Polynomials.{PrivatePart, target_of, blinder_words}
use Rattle.qap.specs.Answers.{IsAnswers}
use Rattle.qap.specs.Demands.{Exactly, FirstThree, Answered, IsFourth, SamePublic}
use Rattle.qap.specs.declared.Blinders.{Blinders}
use Rattle.qap.specs.declared.FourAnswers.{FourAnswers}
use Rattle.qap.proofs.Settings.{prime, p_positive}
use Rattle.qap.proofs.Parts.{part_exists, part_unique}
use Rattle.qap.proofs.Quotients.{quotient_exists}
use Rattle.qap.proofs.AnswerLaws.{answers_agree, public-same}

one_word : (f : List ℕ) → length f ≡ 1 → f ≡ get_or f 0 0 ∷ []
one_word f e = ext_get_or 0 f (get_or f 0 0 ∷ []) e (λ i l. only i (omega arith))
  where
    only : (i : ℕ) → i < 1 → get_or f i 0 ≡ get_or (get_or f 0 0 ∷ []) i 0
    only zero l = refl
    only (suc i) l = absurd (omega arith)

-- one query point
one-point : (p s : ℕ) → Distinct p (s ∷ [])
one-point p s = record { apart = λ i j less inside e. omega arith }

word_alone : {p v : ℕ} → v < p → Words p (v ∷ [])
word_alone {p} {v} word = record { below = each }
  where
    each : (i : ℕ) → i < 1 → get_or (v ∷ []) i 0 < p
    each zero l = word
    each (suc i) l = absurd (omega arith)

module _ {S : Setting} (sound : Sound S) {c : List ℕ} (formed : Formed S.p c) (a : List ℕ)
    (s : ℕ) (off : value (target_of S c) s ≈⟨ S.p ⟩ 0 → ⊥) where
  -- the blinder d makes v the answer for the part f
  abbrev Answers : List ℕ → ℕ → List ℕ → Type 0
  Answers f v d = v ≡ (value f s + value d s * value (target_of S c) s) % S.p

  off_each : (i : ℕ) → i < 1 → value (target_of S c) (get_or (s ∷ []) i 0) ≈⟨ S.p ⟩ 0 → ⊥
  off_each zero l = off
  off_each (suc i) l = absurd (omega arith)

  blinds-answers : {v : ℕ} {f d : List ℕ} → v < S.p → Blinds S.p (points_of S c) (s ∷ []) f (λ i. v) d → Answers f v d
  blinds-answers {v} {f} {d} word h =
      let sum = value f s + value d s * value (target_of S c) s in
      let at = rw (blinded-value S.p (points_of S c) f d s) at (h.takes 0 (lit< tt)) in
      ≈-words (≈_trans (≈_sym at) (≈_sym (≈-reduced S.p sum))) word (mod-lt sum (p_positive sound))

  answers-blinds : {v : ℕ} {f d : List ℕ} → length d ≡ 1 → Words S.p d → Answers f v d → Blinds S.p (points_of S c) (s ∷ []) f (λ i. v) d
  answers-blinds {v} {f} {d} size words e = record { size = size; words = words; takes = each }
    where
      each : (i : ℕ) → i < 1 → value (blinded S.p (points_of S c) f d) (get_or (s ∷ []) i 0) ≈⟨ S.p ⟩ v
      each zero l = rw (blinded-value S.p (points_of S c) f d s, e) (≈_sym (≈-reduced S.p (value f s + value d s * value (target_of S c) s)))
      each (suc i) l = absurd (omega arith)

  -- a word v is the answer for f under exactly one blinder
  blinder : (f : List ℕ) (v : ℕ) → v < S.p → (d : ℕ) × (d < S.p) × Answers f v (d ∷ [])
  blinder f v word =
      let (e, h) = blinder_exists (prime sound) (points_of S c) (s ∷ []) (one-point S.p s) off_each f (λ i. v) in
      (get_or e 0 0, h.words.below 0 (omega (arith, h.size)), rw (one_word e h.size) at (blinds-answers word h))

  same-blinder : {matrix : ℕ} {f g : List ℕ} {v d e : ℕ} → PrivatePart S c a matrix f → PrivatePart S c a matrix g → d < S.p → e < S.p →
      Answers f v (d ∷ []) → Answers g v (e ∷ []) → d ≡ e
  same-blinder {matrix} {f} {g} {v} {d} {e} rf rg hd he h k =
      let same = part_unique sound formed rf rg in
      let own = answers-blinds refl (word_alone hd) h in
      let other = answers-blinds refl (word_alone he) (rw (← same) at k) in
      ap (λ (l : List ℕ). get_or l 0 0)
      (blinder_unique (prime sound) (points_of S c) (s ∷ []) (one-point S.p s) off_each f (λ i. v) own other)

  three-words : {d1 d2 d3 : ℕ} → d1 < S.p → d2 < S.p → d3 < S.p → Words S.p (blinder_words (record { first = d1; second = d2; third = d3 }))
  three-words {d1} {d2} {d3} b1 b2 b3 = record { below = each }
    where
      each : (i : ℕ) → i < 3 → get_or (d1 ∷ d2 ∷ d3 ∷ []) i 0 < S.p
      each zero l = b1
      each (suc zero) l = b2
      each (suc (suc zero)) l = b3
      each (suc (suc (suc i))) l = absurd (omega arith)

  pub any_three : RowsHold S.p c a → (v1 v2 v3 : ℕ) → v1 < S.p → v2 < S.p → v3 < S.p → Exactly Blinders (FirstThree S c a s v1 v2 v3)
  any_three hold v1 v2 v3 w1 w2 w3 =
      let (A, private_a) = part_exists sound formed a 0 (publics c) (columns c) in
      let (B, private_b) = part_exists sound formed a 1 (publics c) (columns c) in
      let (C, private_c) = part_exists sound formed a 2 (publics c) (columns c) in
      let (d1, b1, e1) = blinder A v1 w1 in
      let (d2, b2, e2) = blinder B v2 w2 in
      let (d3, b3, e3) = blinder C v3 w3 in
      let d : Blinders = record { first = d1; second = d2; third = d3 } in
      let (H, quotient) = quotient_exists sound formed a d hold in
      record {
        one = d;
        has = record {
          fourth = value H s % S.p;
          answered = record {
            words = three-words b1 b2 b3;
            answers = record {
              A = A;
              B = B;
              C = C;
              H = H;
              private_a = private_a;
              private_b = private_b;
              private_c = private_c;
              quotient_h = quotient;
              first = e1;
              second = e2;
              third = e3;
              fourth = refl;
            };
          };
        };
        no_other = λ x h.
            let w = h.answered.words.below in
            let r = h.answered.answers in
            let one = same-blinder r.private_a private_a (w 0 (lit< tt)) b1 r.first e1 in
            let two = same-blinder r.private_b private_b (w 1 (lit< tt)) b2 r.second e2 in
            let three = same-blinder r.private_c private_c (w 2 (lit< tt)) b3 r.third e3 in
            λ i. record { first = one i; second = two i; third = three i };
      }

  -- the equality of the answer check leaves one fourth word
  pub one-fourth : {v1 v2 v3 w x : ℕ} → IsFourth S c a s v1 v2 v3 w → IsFourth S c a s v1 v2 v3 x → w ≡ x
  one-fourth {v1} {v2} {v3} {w} {x} h k =
      let z = value (target_of S c) s in
      let same_A = part_unique sound formed k.agrees.public_a h.agrees.public_a in
      let same-B = part_unique sound formed k.agrees.public_b h.agrees.public_b in
      let same-C = part_unique sound formed k.agrees.public_c h.agrees.public_c in
      let other = rw (same_A, same-B, same-C) at k.agrees.equal in
      ≈-words (cancel (prime sound) z off (by (≈-plus (≈_sym h.agrees.equal) other) (omega arith))) h.word k.word

  -- and there is one, whatever the first three: it takes circuit, public values and point alone
  pub only-fourth : (v1 v2 v3 : ℕ) → Exactly ℕ (IsFourth S c a s v1 v2 v3)
  only-fourth v1 v2 v3 =
      let (A, public_a) = part_exists sound formed a 0 0 (publics c) in
      let (B, public_b) = part_exists sound formed a 1 0 (publics c) in
      let (C, public_c) = part_exists sound formed a 2 0 (publics c) in
      let z = value (target_of S c) s in
      let (w, word, e) = solve (prime sound) z off (v3 + value C s) ((v1 + value A s) * (v2 + value B s)) in
      let agrees : IsFourth S c a s v1 v2 v3 w = record {
        word = word;
        agrees = record {
          A = A;
          B = B;
          C = C;
          public_a = public_a;
          public_b = public_b;
          public_c = public_c;
          equal = by (≈_sym e) (omega arith);
        };
      } in
      record { one = w; has = agrees; no_other = λ x h. one-fourth h agrees }

module _ {S : Setting} (sound : Sound S) {c : List ℕ} (formed : Formed S.p c) (a b : List ℕ) (same : SamePublic c a b) where
  -- the fourth answer is the one word that follows from circuit, public values, point and the first three
  pub fourth_follows : {d : Blinders} {s : ℕ} {r : FourAnswers} → IsAnswers S c a d s r → IsFourth S c b s r.first r.second r.third r.fourth
  fourth_follows {d} {s} {r} h =
      let agree = answers_agree sound formed a h in
      record {
        word = rw h.fourth (mod-lt (value h.H s) (p_positive sound));
        agrees = record {
          A = agree.A;
          B = agree.B;
          C = agree.C;
          public_a = public-same sound formed a same agree.public_a;
          public_b = public-same sound formed a same agree.public_b;
          public_c = public-same sound formed a same agree.public_c;
          equal = agree.equal;
        };
      }

module _ {S : Setting} (sound : Sound S) {c : List ℕ} (formed : Formed S.p c) (a b : List ℕ) (same : SamePublic c a b) where
  pub same_answers : RowsHold S.p c b → (s : ℕ) (off : value (target_of S c) s ≈⟨ S.p ⟩ 0 → ⊥) {d : Blinders} {r : FourAnswers} →
      IsAnswers S c a d s r → Exactly Blinders (Answered S c b s r)
  same_answers hold s off {d} {r} h =
      let word : (x : ℕ) → x % S.p < S.p = λ x. mod-lt x (p_positive sound) in
      let three = any_three sound formed b s off hold r.first r.second r.third
      (rw h.first (word _)) (rw h.second (word _)) (rw h.third (word _)) in
      let itself : SamePublic c b b = record { values = λ j l u. refl } in
      let fourth : three.has.fourth ≡ r.fourth =
      one-fourth sound formed b s off (fourth_follows sound formed b b itself three.has.answered.answers) (fourth_follows sound formed a b same h) in
      record {
        one = three.one;
        has = rw fourth at three.has.answered;
        no_other = λ x k. three.no_other x (record { fourth = r.fourth; answered = k });
      }
