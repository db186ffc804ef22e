-- The dividend's words are A'B' − C': their quotient by the target is the definition's where A'B' − C' is 0 at all points,
-- and they are the words of Z times a candidate exactly where the candidate divides. RULES 4.
use mathlib.Core.Path.{◌≡◌, sym, ◌∙◌}
use mathlib.Core.List.{List}
use Prim.Native.Nat.{ℕ, suc, ◌+◌, ◌*◌, ◌-◌, ◌≤◌}
use native.Mathlib.Decide.{dec_lt}
use native.Mathlib.Omega.{arith}
use lib.ListN.{length, get_or, take, length-take, get_or-eq_default}
use lib.Seq.{get_or-take, length-take-le}
use Rattle.algebra.specs.Polynomial.{Words, sum, product, reduced, ◌≋⟨◌⟩◌}
use Rattle.algebra.specs.Points.{Vanishes, row_points}
use Rattle.algebra.specs.Blinding.{Holds, Divides}
use Rattle.algebra.proofs.Congruence.{≈_refl, ≈_trans, ≈-plus, ≈-negative, by}
use Rattle.algebra.proofs.Polynomial.{length-reduced, value-product}
use Rattle.algebra.proofs.Pairing.{pairing, pairings, by_pairings, pairing-sum}
use Rattle.algebra.proofs.Same.{≋_sym, ≋_trans, ≋-value, ≋-reduced, reduced-words, words-equal}
use Rattle.algebra.proofs.Difference.{difference, length-difference, pairing-difference, difference-value, difference-sum}
use Rattle.algebra.proofs.Consecutive.{length-row_points, distinct-row_points}
use Rattle.algebra.specs.Prime.{FieldPrime}
use Rattle.algebra.proofs.Inverse.{positive}
use Rattle.poly.specs.Product.{padded}
use Rattle.poly.proofs.Words.{words_take}
use Rattle.poly.proofs.ScaledLaws.{length-scaled, words-scaled, pairing-scaled}
use Rattle.poly.proofs.ProductLaws.{length-padded, words-padded, pairing-padded, length-product-fits}
use Rattle.poly.proofs.DivisionLaws.{quotient-exact, length-quotient, words-quotient}
use Rattle.dividend.specs.Dividend.{dividend_of, quotient_of}

module _ {p : ℕ} (field : FieldPrime p) where
  -- a product in 513 words
  padded-same : (f g : List ℕ) → padded 513 (reduced p (product f g)) ≋⟨ p ⟩ product f g
  padded-same f g = by_pairings (λ φ. rw pairing-padded (pairings (reduced p (product f g)) (product f g) (≋-reduced p (product f g)) φ))

  module _ (m : ℕ) (few : m ≤ 256) (f g : List ℕ) (size_f : length f ≡ suc m) (size_g : length g ≡ suc m) where
    padded-length : length (padded 513 (reduced p (product f g))) ≡ 513
    padded-length = length-padded 513 (reduced p (product f g)) (rw length-reduced (length-product-fits f g 513 (omega arith) (omega arith)))

    padded-words : Words p (padded 513 (reduced p (product f g)))
    padded-words = words-padded (positive field.prime) 513 (reduced p (product f g)) (reduced-words (positive field.prime) (product f g))

  module _ (m : ℕ) (few : m ≤ 256) (a b c : List ℕ) (size-a : length a ≡ suc m) (size-b : length b ≡ suc m) (size-c : length c ≡ suc m) where
    dividend-length : length (dividend_of p a b c) ≡ 513
    unfolding dividend_of
    dividend-length = rw length-scaled (padded-length m few a b size-a size-b)

    dividend-words : Words p (dividend_of p a b c)
    unfolding dividend_of
    dividend-words = words-scaled (positive field.prime) (p - 1) c (padded 513 (reduced p (product a b))) (padded-words m few a b size-a size-b)

    dividend-same : dividend_of p a b c ≋⟨ p ⟩ difference p (product a b) c
    unfolding dividend_of
    dividend-same = by_pairings (λ φ.
        let whole = padded 513 (reduced p (product a b)) in
        rw (pairing-difference p (product a b) c φ)
        (≈_trans (pairing-scaled p (p - 1) c whole φ (omega (arith, padded-length m few a b size-a size-b)))
        (≈-plus (pairings whole (product a b) (padded-same a b) φ) (≈_refl p ((p - 1) * pairing c φ)))))

    -- the first 2 m + 1 words are all of it
    front_same : take (m + m + 1) (dividend_of p a b c) ≋⟨ p ⟩ difference p (product a b) c
    front_same = record {
      coefficient = λ k. elim (dec_lt k (m + m + 1)) [
        | yes below ↦ rw (get_or-take (m + m + 1) (dividend_of p a b c) k 0 below) (dividend-same.coefficient k)
        | no above ↦ rw (
          get_or-eq_default (take (m + m + 1) (dividend_of p a b c)) 0 {n = k} (omega (arith, length-take (m + m + 1) (dividend_of p a b c))),
          get_or-eq_default (difference p (product a b) c) 0 {n = k}
              (omega (arith, length-difference p (product a b) c, length-product-fits a b (m + m + 1) (omega arith) (omega arith))),
        )
            (≈_refl p 0)
      ];
    }

    -- where A'B' − C' is 0 at all points its quotient divides
    pub dividend-quotient : Holds p (row_points m) a b c → Divides p (row_points m) a b c (quotient_of p m (dividend_of p a b c))
    unfolding quotient_of
    dividend-quotient holds =
        let f = take (m + m + 1) (dividend_of p a b c) in
        let xs = row_points m in
        let size : length f ≡ m + m + 1 = length-take-le (m + m + 1) (dividend_of p a b c) (omega (arith, dividend-length)) in
        let zero : Vanishes p f xs = record {
          zero_at = λ i l.
              ≈_trans (≋-value front_same (get_or xs i 0)) (difference-value (positive field.prime) (product a b) c (get_or xs i 0) (rw value-product (holds.at_each i l)));
        } in
        let q = quotient-exact field.prime xs f (omega (arith, length-row_points m)) (words_take (m + m + 1) (dividend_of p a b c) dividend-words)
        (distinct-row_points m (omega (arith, field.above))) zero in
        record { equal = difference-sum (positive field.prime) (product a b) c (≋_trans (≋_sym front_same) q.exact) }

    pub dividend-quotient_size : length (quotient_of p m (dividend_of p a b c)) ≡ suc m
    unfolding quotient_of
    dividend-quotient_size =
        let f = take (m + m + 1) (dividend_of p a b c) in
        let size : length f ≡ m + m + 1 = length-take-le (m + m + 1) (dividend_of p a b c) (omega (arith, dividend-length)) in
        let points = length-row_points m in
        omega (arith, length-quotient field.prime (row_points m) f (omega arith))

    pub dividend-quotient-words : Words p (quotient_of p m (dividend_of p a b c))
    unfolding quotient_of
    dividend-quotient-words =
        let f = take (m + m + 1) (dividend_of p a b c) in
        let size : length f ≡ m + m + 1 = length-take-le (m + m + 1) (dividend_of p a b c) (omega (arith, dividend-length)) in
        words-quotient field.prime (row_points m) f (omega (arith, length-row_points m)) (words_take (m + m + 1) (dividend_of p a b c) dividend-words)

    module _ (z h : List ℕ) (size_z : length z ≡ suc m) (size-h : length h ≡ suc m) where
      -- the words of Z times a candidate are the same exactly where A'B' − C' = Z h
      pub words-divide : dividend_of p a b c ≡ padded 513 (reduced p (product z h)) → product a b ≋⟨ p ⟩ sum c (product z h)
      words-divide e = difference-sum (positive field.prime) (product a b) c (≋_trans (≋_sym dividend-same) (rw e (padded-same z h)))

      pub divide-words : product a b ≋⟨ p ⟩ sum c (product z h) → dividend_of p a b c ≡ padded 513 (reduced p (product z h))
      divide-words e =
          words-equal (dividend-length ∙ sym (padded-length m few z h size_z size-h)) dividend-words (padded-words m few z h size_z size-h)
          (≋_trans dividend-same (≋_trans (by_pairings (λ φ.
          rw (pairing-difference p (product a b) c φ)
          (by (≈-plus (rw pairing-sum at (pairings (product a b) (sum c (product z h)) e φ)) (≈-negative (positive field.prime) (pairing c φ))) (omega arith))))
          (≋_sym (padded-same z h))))
