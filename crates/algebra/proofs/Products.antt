-- The product of polynomials is symmetric, linear in each factor (paired), and the same for the same factors.
use mathlib.Core.Path.{◌≡◌, sym, ◌∙◌}
use mathlib.Core.List.{List, [], ◌∷◌}
use Prim.Native.Nat.{ℕ, ◌+◌, ◌*◌}
use native.Mathlib.Nat.{add_comm, add_assoc, zero-add}
use native.Mathlib.Omega.{arith}
use Rattle.algebra.specs.Polynomial.{sum, multiple, product, ◌≋⟨◌⟩◌}
use Rattle.algebra.proofs.Congruence.{≈-plus}
use Rattle.algebra.proofs.Same.{≋_trans}
use Rattle.algebra.proofs.Pairing.{pairing, pairings, by_pairings, pairing-sum, pairing-multiple, pairing-product, pairing_swap}

pub product_swap : (f g : List ℕ) (φ : ℕ → ℕ) → pairing (product f g) φ ≡ pairing (product g f) φ
product_swap f g φ =
    rw (pairing-product f g φ, pairing-product g f φ)
    (pairing_swap f g (λ i j. φ (i + j)) ∙ (λ t. pairing g (λ j. pairing f (λ i. φ (add_comm i j t)))))

pub product_assoc : (f g h : List ℕ) (φ : ℕ → ℕ) → pairing (product (product f g) h) φ ≡ pairing (product f (product g h)) φ
product_assoc f g h φ = simp pairing-product (λ t. pairing f (λ i. pairing g (λ j. pairing h (λ k. φ (add_assoc i j k t)))))

pub product-sum_left : (f g h : List ℕ) (φ : ℕ → ℕ) → pairing (product (sum f g) h) φ ≡ pairing (product f h) φ + pairing (product g h) φ
product-sum_left f g h φ = simp (pairing-product, pairing-sum)

pub product-multiple_left : (k : ℕ) (f h : List ℕ) (φ : ℕ → ℕ) → pairing (product (multiple k f) h) φ ≡ k * pairing (product f h) φ
product-multiple_left k f h φ = simp (pairing-product, pairing-multiple)

pub product-sum-right : (h f g : List ℕ) (φ : ℕ → ℕ) → pairing (product h (sum f g)) φ ≡ pairing (product h f) φ + pairing (product h g) φ
product-sum-right h f g φ = rw (product_swap h (sum f g) φ, product_swap h f φ, product_swap h g φ) (product-sum_left f g h φ)

pub product-multiple-right : (k : ℕ) (h f : List ℕ) (φ : ℕ → ℕ) → pairing (product h (multiple k f)) φ ≡ k * pairing (product h f) φ
product-multiple-right k h f φ = rw (product_swap h (multiple k f) φ, product_swap h f φ) (product-multiple_left k f h φ)

-- times a constant
pub product_constant : (h : List ℕ) (c : ℕ) (φ : ℕ → ℕ) → pairing (product h (c ∷ [])) φ ≡ c * pairing h φ
unfolding pairing
product_constant h c φ = rw (product_swap h (c ∷ []) φ) (simp (pairing-product, zero-add) (omega arith))

pub product-one : (c : ℕ) (h : List ℕ) (φ : ℕ → ℕ) → pairing (product (c ∷ []) h) φ ≡ c * pairing h φ
product-one c h φ = rw (product_swap (c ∷ []) h φ) (product_constant h c φ)

pub product-same : {p : ℕ} (h f g : List ℕ) → f ≋⟨ p ⟩ g → product h f ≋⟨ p ⟩ product h g
product-same h f g e = by_pairings (λ φ.
    rw (product_swap h f φ, product_swap h g φ, pairing-product f h φ, pairing-product g h φ)
    (pairings f g e (λ i. pairing h (λ j. φ (i + j)))))

pub products_same : {p : ℕ} {f g h k : List ℕ} → f ≋⟨ p ⟩ g → h ≋⟨ p ⟩ k → product f h ≋⟨ p ⟩ product g k
products_same {p} {f} {g} {h} {k} e d =
    ≋_trans (product-same f h k d)
    (by_pairings (λ φ. rw (pairing-product f k φ, pairing-product g k φ) (pairings f g e (λ i. pairing k (λ j. φ (i + j))))))

pub sums_same : {p : ℕ} {f g h k : List ℕ} → f ≋⟨ p ⟩ g → h ≋⟨ p ⟩ k → sum f h ≋⟨ p ⟩ sum g k
sums_same {p} {f} {g} {h} {k} e d = by_pairings (λ φ. rw (pairing-sum, pairing-sum) (≈-plus (pairings f g e φ) (pairings h k d φ)))

infix 50 ◌≃◌
-- the same numbers in every place, without a modulus: products may be put in any order
pub record ◌≃◌ (f g : List ℕ) : Type 0 where
  pub paired : (φ : ℕ → ℕ) → pairing f φ ≡ pairing g φ

≃_trans : {f g h : List ℕ} → f ≃ g → g ≃ h → f ≃ h
≃_trans e d = record { paired = λ φ. e.paired φ ∙ d.paired φ }

≃_swap : (f g : List ℕ) → product f g ≃ product g f
≃_swap f g = record { paired = product_swap f g }

≃_left : {f g : List ℕ} (h : List ℕ) → f ≃ g → product f h ≃ product g h
≃_left {f} {g} h e = record { paired = λ φ. rw (pairing-product f h φ, pairing-product g h φ) (e.paired (λ i. pairing h (λ j. φ (i + j)))) }

≃-right : {f g : List ℕ} (h : List ℕ) → f ≃ g → product h f ≃ product h g
≃-right {f} {g} h e = ≃_trans (≃_swap h f) (≃_trans (≃_left h e) (≃_swap g h))

≃_assoc : (f g h : List ℕ) → product (product f g) h ≃ product f (product g h)
≃_assoc f g h = record { paired = product_assoc f g h }

≃-back : (f g h : List ℕ) → product f (product g h) ≃ product (product f g) h
≃-back f g h = record { paired = λ φ. sym (product_assoc f g h φ) }

-- a (d z) = z (d a)
pub turned : (a d z : List ℕ) → product a (product d z) ≃ product z (product d a)
turned a d z = ≃_trans (≃-back a d z) (≃_trans (≃_swap (product a d) z) (≃-right z (≃_swap a d)))

-- (d z) b = z (d b)
pub moved : (d z b : List ℕ) → product (product d z) b ≃ product z (product d b)
moved d z b = ≃_trans (≃_left b (≃_swap d z)) (≃_assoc z d b)

-- (d z) (e z) = z ((d e) z)
pub gathered : (d e z : List ℕ) → product (product d z) (product e z) ≃ product z (product (product d e) z)
gathered d e z = ≃_trans (moved d z (product e z)) (≃-right z (≃-back d e z))
