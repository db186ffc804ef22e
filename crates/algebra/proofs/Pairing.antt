-- A list paired with a sequence φ: entry k counts φ k times. Every polynomial law is linear in this pairing,
-- so an identity of polynomials is one of such sums, for every φ: `by_pairings` turns it back into coefficients.
use mathlib.Core.Path.{◌≡◌, refl, sym, ap}
use mathlib.Core.List.{List, [], ◌∷◌}
use Prim.Native.Nat.{ℕ, zero, suc, ◌+◌, ◌*◌, ◌^◌}
use native.Mathlib.Nat.{zero-add, suc-add, pow-zero, pow-succ'}
use native.Mathlib.Omega.{arith}
use lib.ListN.{get_or, drop}
use lib.Seq.{get_or-drop}
use Rattle.algebra.specs.Congruence.{◌≈⟨◌⟩◌}
use Rattle.algebra.specs.Polynomial.{value, sum, multiple, product, ◌≋⟨◌⟩◌}
use Rattle.algebra.proofs.Congruence.{≈_refl, ≈-plus, ≈-product, by}

unfoldable pub pairing : List ℕ → (ℕ → ℕ) → ℕ
pairing [] φ = 0
pairing (a ∷ f) φ = a * φ 0 + pairing f (λ k. φ (suc k))

pub pairing-sum : (f g : List ℕ) (φ : ℕ → ℕ) → pairing (sum f g) φ ≡ pairing f φ + pairing g φ
unfolding sum pairing
pairing-sum [] g φ = omega arith
pairing-sum (a ∷ f) [] φ = omega arith
pairing-sum (a ∷ f) (b ∷ g) φ = omega (arith, pairing-sum f g (λ k. φ (suc k)))

pub pairing-multiple : (c : ℕ) (f : List ℕ) (φ : ℕ → ℕ) → pairing (multiple c f) φ ≡ c * pairing f φ
unfolding multiple pairing
pairing-multiple c [] φ = omega arith
pairing-multiple c (a ∷ f) φ = omega (arith, pairing-multiple c f (λ k. φ (suc k)))

pub pairing-product : (f g : List ℕ) (φ : ℕ → ℕ) → pairing (product f g) φ ≡ pairing f (λ i. pairing g (λ j. φ (i + j)))
unfolding product pairing
pairing-product [] g φ = refl
pairing-product (a ∷ f) g φ =
    simp (pairing-sum, pairing-multiple, zero-add, suc-add) (omega (arith, pairing-product f g (λ k. φ (suc k))))

-- linear in the sequence
pub pairing-plus : (f : List ℕ) (φ ψ : ℕ → ℕ) → pairing f (λ k. φ k + ψ k) ≡ pairing f φ + pairing f ψ
unfolding pairing
pairing-plus [] φ ψ = omega arith
pairing-plus (a ∷ f) φ ψ = omega (arith, pairing-plus f (λ k. φ (suc k)) (λ k. ψ (suc k)))

pub pairing-times : (c : ℕ) (f : List ℕ) (φ : ℕ → ℕ) → pairing f (λ k. c * φ k) ≡ c * pairing f φ
unfolding pairing
pairing-times c [] φ = omega arith
pairing-times c (a ∷ f) φ = omega (arith, pairing-times c f (λ k. φ (suc k)))

pub pairing-zero : (f : List ℕ) → pairing f (λ k. 0) ≡ 0
unfolding pairing
pairing-zero [] = refl
pairing-zero (a ∷ f) = omega (arith, pairing-zero f)

-- the order of two lists does not matter
pub pairing_swap : (f g : List ℕ) (φ : ℕ → ℕ → ℕ) → pairing f (λ i. pairing g (λ j. φ i j)) ≡ pairing g (λ j. pairing f (λ i. φ i j))
unfolding pairing
pairing_swap [] g φ = sym (pairing-zero g)
pairing_swap (a ∷ f) g φ =
    omega
    (arith, pairing-plus g (λ j. a * φ 0 j) (λ j. pairing f (λ i. φ (suc i) j)), pairing-times a g (φ 0), pairing_swap f g (λ i. φ (suc i)))

pub value-pairing : (f : List ℕ) (s : ℕ) → value f s ≡ pairing f (λ k. s ^ k)
unfolding value pairing
value-pairing [] s = refl
value-pairing (a ∷ f) s = simp (pow-zero, pow-succ')
    (omega (arith, pairing-times s f (λ k. s ^ k), ap (λ (x : ℕ). s * x) (value-pairing f s)))

-- the pairings that pick coefficient k
pick : ℕ → ℕ → ℕ
pick zero zero = 1
pick zero (suc j) = 0
pick (suc k) zero = 0
pick (suc k) (suc j) = pick k j

pairing-pick : (f : List ℕ) (k : ℕ) → pairing f (pick k) ≡ get_or f k 0
unfolding pairing pick
pairing-pick [] k = refl
pairing-pick (a ∷ f) zero = omega (arith, pairing-zero f)
pairing-pick (a ∷ f) (suc k) = omega (arith, pairing-pick f k)

pub by_pairings : {p : ℕ} {f g : List ℕ} → ((φ : ℕ → ℕ) → pairing f φ ≈⟨ p ⟩ pairing g φ) → f ≋⟨ p ⟩ g
by_pairings {p} {f} {g} h = record { coefficient = λ k. rw (pairing-pick f k, pairing-pick g k) at (h (pick k)) }

≋-rest : {p : ℕ} {f g : List ℕ} → f ≋⟨ p ⟩ g → drop 1 f ≋⟨ p ⟩ drop 1 g
≋-rest {p} {f} {g} h = record { coefficient = λ k. rw (get_or-drop 1 f k 0, get_or-drop 1 g k 0) (h.coefficient (1 + k)) }

≋-step : {p : ℕ} {f g : List ℕ} {x y : ℕ} → f ≋⟨ p ⟩ g → x ≈⟨ p ⟩ y → (w : ℕ) → get_or f 0 0 * w + x ≈⟨ p ⟩ get_or g 0 0 * w + y
≋-step {p} h k w = ≈-plus (≈-product (h.coefficient 0) (≈_refl p w)) k

pub pairings : {p : ℕ} (f g : List ℕ) → f ≋⟨ p ⟩ g → (φ : ℕ → ℕ) → pairing f φ ≈⟨ p ⟩ pairing g φ
unfolding pairing
pairings {p} [] [] h φ = ≈_refl p 0
pairings [] (b ∷ g) h φ = by (≋-step h (pairings [] g (≋-rest h) (λ k. φ (suc k))) (φ 0)) (omega arith)
pairings (a ∷ f) [] h φ = by (≋-step h (pairings f [] (≋-rest h) (λ k. φ (suc k))) (φ 0)) (omega arith)
pairings (a ∷ f) (b ∷ g) h φ = ≋-step h (pairings f g (≋-rest h) (λ k. φ (suc k))) (φ 0)
