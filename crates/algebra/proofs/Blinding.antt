-- Blinding: A'B' − C' = Z H' has a solution exactly where A B − C is 0 at all points; it is the only one of its length,
-- equals H + d1 B + d2 A + d1 d2 Z − d3, and with blinders 0 the words past the plain quotient's are 0. RULES 4.
use mathlib.Core.Path.{◌≡◌, sym, ◌∙◌}
use mathlib.Core.List.{List, [], ◌∷◌}
use Prim.Native.Nat.{ℕ, suc, ◌+◌, ◌*◌, ◌-◌, ◌<◌, ◌≤◌}
use native.Mathlib.Omega.{arith}
use lib.ListN.{length, get_or, get_or-eq_default}
use Rattle.algebra.specs.Congruence.{◌≈⟨◌⟩◌}
use Rattle.algebra.specs.Prime.{Prime}
use Rattle.algebra.specs.Polynomial.{value, sum, product, reduced, ◌≋⟨◌⟩◌}
use Rattle.algebra.specs.Points.{Distinct, Vanishes, target}
use Rattle.algebra.specs.Blinding.{Holds, Divides, PlainQuotient, BlindedQuotient, blinded, blinded_sum, quotient_size}
use Rattle.algebra.proofs.Congruence.{≈_sym, ≈-plus, ≈-times, ≈-negative, ≈-words, by}
use Rattle.algebra.proofs.Pairing.{pairing, pairings, by_pairings, pairing-sum, pairing-multiple}
use Rattle.algebra.proofs.Inverse.{positive}
use Rattle.algebra.proofs.Polynomial.{length-sum, length-multiple, length-product, length-product_most, length-reduced, value-sum, value-product}
use Rattle.algebra.proofs.Same.{≋_refl, ≋_sym, ≋_trans, ≋-value, ≋-reduced, reduced-words, words-equal}
use Rattle.algebra.proofs.Difference.{difference, length-difference, difference-value, difference-sum}
use Rattle.algebra.proofs.Target.{length-target, target-zero}
use Rattle.algebra.proofs.Division.{division, target-cancel}
use Rattle.algebra.proofs.Products.{product-same, products_same, sums_same, product_swap, product-sum_left, product-sum-right, product-multiple-right, turned, moved, gathered}

-- the equality at a point
pub divides-value : {p : ℕ} {xs a b c h : List ℕ} → Divides p xs a b c h → (s : ℕ) →
    value a s * value b s ≈⟨ p ⟩ value c s + value (target p xs) s * value h s
divides-value e s = simp (value-product, value-sum) at (≋-value e.equal s)

-- the same polynomials divide alike
pub divides-alike : {p : ℕ} {xs a b c f g k h : List ℕ} → a ≋⟨ p ⟩ f → b ≋⟨ p ⟩ g → c ≋⟨ p ⟩ k → Divides p xs a b c h → Divides p xs f g k h
divides-alike {p} {xs} {h = h} sa sb sc e = record {
  equal = ≋_trans (products_same (≋_sym sa) (≋_sym sb)) (≋_trans e.equal (sums_same sc (≋_refl p (product (target p xs) h))));
}

module _ {p : ℕ} (pos : 0 < p) (xs a b c : List ℕ) where
  -- A B − C = Z H fixes H
  divides_unique : (g h : List ℕ) → Divides p xs a b c g → Divides p xs a b c h → g ≋⟨ p ⟩ h
  divides_unique g h s t = target-cancel pos xs g h (by_pairings (λ φ.
      let z = target p xs in
      let both = ≋_trans (≋_sym s.equal) t.equal in
      let whole = simp pairing-sum at (pairings (sum c (product z g)) (sum c (product z h)) both φ) in
      by whole (omega arith)))

  divides-same : (g h : List ℕ) → g ≋⟨ p ⟩ h → Divides p xs a b c g → Divides p xs a b c h
  divides-same g h e s = record {
    equal = by_pairings (λ φ.
        let z = target p xs in
        rw pairing-sum
        (by (≈-plus (rw pairing-sum at (pairings (product a b) (sum c (product z g)) s.equal φ)) (pairings (product z g) (product z h) (product-same z g h e) φ))
        (omega arith)));
  }

module _ {p : ℕ} (pos : 0 < p) (xs a b c d1 d2 d3 : List ℕ) where
  -- the blinded quotient, from the plain one
  blinded-divides : {h : List ℕ} → Divides p xs a b c h →
      Divides p xs (blinded p xs a d1) (blinded p xs b d2) (blinded p xs c d3) (blinded_sum p xs a b d1 d2 d3 h)
  blinded-divides {h} e = record {
    equal = by_pairings (λ φ.
        let z = target p xs in
        let plain = rw pairing-sum at (pairings (product a b) (sum c (product z h)) e.equal φ) in
        simp (product-sum_left, product-sum-right, product-multiple-right, pairing-sum)
        (by (≈-plus plain (≈_sym (≈-negative pos (pairing (product z d3) φ))))
        (omega (arith, (turned a d2 z).paired φ, (moved d1 z b).paired φ, (gathered d1 d2 z).paired φ, product_swap d3 z φ))));
  }

  pub blinded-formula : {h k : List ℕ} → PlainQuotient p xs a b c h → BlindedQuotient p xs a b c d1 d2 d3 k →
      k ≋⟨ p ⟩ blinded_sum p xs a b d1 d2 d3 h
  blinded-formula {h} {k} plain q =
      divides_unique pos xs (blinded p xs a d1) (blinded p xs b d2) (blinded p xs c d3) k (blinded_sum p xs a b d1 d2 d3 h)
      q.divides (blinded-divides plain.divides)

  pub blinded_unique : {g h : List ℕ} → BlindedQuotient p xs a b c d1 d2 d3 g → BlindedQuotient p xs a b c d1 d2 d3 h → g ≡ h
  blinded_unique {g} {h} s t =
      words-equal (s.size ∙ sym t.size) s.words t.words
      (divides_unique pos xs (blinded p xs a d1) (blinded p xs b d2) (blinded p xs c d3) g h s.divides t.divides)

  -- where there is a quotient, A B − C is 0 at all points
  pub blinded-holds : {h : List ℕ} → Divides p xs (blinded p xs a d1) (blinded p xs b d2) (blinded p xs c d3) h → Holds p xs a b c
  blinded-holds {h} e = record {
    at_each = λ i l.
        let x = get_or xs i 0 in
        let z = value (target p xs) x in
        let zero : z ≈⟨ p ⟩ 0 = (target-zero pos xs).zero_at i l in
        let extra = value d1 x * value b x + value d2 x * value a x + value d1 x * value d2 x * z in
        let whole = simp (value-product, value-sum) at (≋-value e.equal x) in
        by (≈-plus (≈-plus whole (≈-times (value d3 x + value h x) zero)) (≈_sym (≈-times extra zero))) (omega arith);
  }

-- blinders that are 0 add nothing
unblinded : {p : ℕ} (xs a b : List ℕ) {d1 d2 d3 : List ℕ} (h : List ℕ) → d1 ≋⟨ p ⟩ [] → d2 ≋⟨ p ⟩ [] → d3 ≋⟨ p ⟩ [] →
    blinded_sum p xs a b d1 d2 d3 h ≋⟨ p ⟩ h
unfolding pairing product
unblinded {p} xs a b {d1} {d2} {d3} h z1 z2 z3 = by_pairings (λ φ.
    let z = target p xs in
    let left = pairings (product d1 b) [] (products_same z1 (≋_refl p b)) φ in
    let right = pairings (product d2 a) [] (products_same z2 (≋_refl p a)) φ in
    let both = pairings (product (product d1 d2) z) [] (products_same (products_same z1 (≋_refl p d2)) (≋_refl p z)) φ in
    let last = pairings d3 [] z3 φ in
    simp (pairing-sum, pairing-multiple)
    (by (≈-plus (≈-plus left right) (≈-plus both (≈-times (p - 1) last))) (omega arith)))

length_square : (a b : List ℕ) → length a ≡ length b → length (product a b) ≡ length a + length b - 1
unfolding product
length_square [] b e = omega arith
length_square (x ∷ a) b e = omega (arith, length-product (x ∷ a) b (omega arith) (omega arith))

module _ {p : ℕ} (prime : Prime p) (xs a b c : List ℕ) (distinct : Distinct p xs)
    (size-a : length a ≡ length xs) (size-b : length b ≡ length xs) (size-c : length c ≡ length xs) where
  pub plain_exists : Holds p xs a b c → (h : List ℕ) × PlainQuotient p xs a b c h
  plain_exists holds =
      let f = difference p (product a b) c in
      let zero : Vanishes p f xs = record {
        zero_at = λ i l. difference-value pos (product a b) c (get_or xs i 0) (rw value-product (holds.at_each i l));
      } in
      let (h, q) = division prime xs f distinct zero in (
        h,
        record {
          size = omega (arith, q.size, length-difference p (product a b) c, length_square a b (size-a ∙ sym size-b));
          words = q.words;
          divides = record { equal = difference-sum pos (product a b) c q.exact };
        },
      )
    where
      pos : 0 < p
      pos = positive prime

  module _ (d1 d2 d3 : List ℕ) (some : 0 < length d1) (as_long : length d2 ≡ length d1) (as-long-3 : length d3 ≡ length d1) where
    blinded-size : (h : List ℕ) → length h ≡ length xs - 1 → length (blinded_sum p xs a b d1 d2 d3 h) ≡ quotient_size (length xs) (length d1)
    blinded-size h size =
        let two = length-product d1 d2 some (omega arith) in
        let top = length-product (product d1 d2) (target p xs) (omega arith) (omega (arith, length-target p xs)) in
        simp (length-sum, length-multiple)
        (omega (arith, two, top, length-target p xs, length-product_most d1 b, length-product_most d2 a, size))

    pub blinded_exists : Holds p xs a b c → (h : List ℕ) × BlindedQuotient p xs a b c d1 d2 d3 h
    blinded_exists holds =
        let (h, plain) = plain_exists holds in
        let s = blinded_sum p xs a b d1 d2 d3 h in (
          reduced p s,
          record {
            size = length-reduced p s ∙ blinded-size h plain.size;
            words = reduced-words (positive prime) s;
            divides = divides-same (positive prime) xs (blinded p xs a d1) (blinded p xs b d2) (blinded p xs c d3) s (reduced p s)
                (≋_sym (≋-reduced p s)) (blinded-divides (positive prime) xs a b c d1 d2 d3 plain.divides);
          },
        )

    -- with blinders that are 0 the words past the plain quotient's are 0: twice as many as a blinder has
    pub past-zero : d1 ≋⟨ p ⟩ [] → d2 ≋⟨ p ⟩ [] → d3 ≋⟨ p ⟩ [] → {h : List ℕ} → BlindedQuotient p xs a b c d1 d2 d3 h →
        (k : ℕ) → length xs ≤ suc k → k < length h → get_or h k 0 ≡ 0
    past-zero z1 z2 z3 {h} q k from to =
        let pos = positive prime in
        let (plain, r) = plain_exists (blinded-holds pos xs a b c d1 d2 d3 q.divides) in
        let same : h ≋⟨ p ⟩ plain = ≋_trans (blinded-formula pos xs a b c d1 d2 d3 r q) (unblinded xs a b plain z1 z2 z3) in
        let none : get_or plain k 0 ≡ 0 = get_or-eq_default plain 0 (omega (arith, r.size)) in
        ≈-words (rw none at (same.coefficient k)) (q.words.below k to) pos
