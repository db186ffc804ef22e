-- The law of times (X − x) in place: a, then the words of g, become the words of a + (X − x) · g.
-- With a = 0 and g the target of some points, the target of these points and x. RULES 4.
use mathlib.Core.Path.{◌≡◌, refl, ap}
use mathlib.Core.List.{List, [], ◌∷◌}
use Prim.Native.Nat.{ℕ, suc, ◌+◌, ◌*◌, ◌<◌}
use native.Mathlib.Nat.{mod-lt, zero-add}
use native.Mathlib.Numerals.{one-add}
use native.Mathlib.Omega.{arith}
use lib.ListN.{length}
use Rattle.algebra.specs.Congruence.{◌≈⟨◌⟩◌, negative}
use Rattle.algebra.specs.Polynomial.{Words, value, sum, product, ◌≋⟨◌⟩◌}
use Rattle.algebra.specs.Points.{factor, target}
use Rattle.algebra.proofs.Congruence.{≈-eq, ≈_trans, ≈-plus, ≈-times, ≈-reduced, by}
use Rattle.algebra.proofs.Polynomial.{value-sum, value-product}
use Rattle.algebra.proofs.Pairing.{pairing, by_pairings, pairing-sum, pairing-product}
use Rattle.algebra.proofs.Same.{≋_sym, ≋_trans, ≋-value, ≋-reduced, words-equal}
use Rattle.algebra.proofs.Target.{length-target, target-words}
use Rattle.poly.specs.Factor.{times_factor}
use Rattle.poly.proofs.Words.{words-cons, words-rest}

pub length-factor : (p x : ℕ) (f : List ℕ) → length (times_factor p x f) ≡ length f
unfolding times_factor
length-factor p x [] = refl
length-factor p x (a ∷ []) = refl
length-factor p x (a ∷ b ∷ g) = ap suc (length-factor p x (b ∷ g))

pub words-factor : {p : ℕ} → 0 < p → (x : ℕ) (f : List ℕ) → Words p f → Words p (times_factor p x f)
unfolding times_factor
words-factor h x [] w = w
words-factor h x (a ∷ []) w = w
words-factor {p} h x (a ∷ b ∷ g) w = words-cons (mod-lt (a + negative p x * b) h) (words-factor h x (b ∷ g) (words-rest w))

pairing-factor : (p x a : ℕ) (g : List ℕ) (φ : ℕ → ℕ) →
    pairing (times_factor p x (a ∷ g)) φ ≈⟨ p ⟩ a * φ 0 + (negative p x * pairing g φ + pairing g (λ k. φ (suc k)))
unfolding times_factor pairing
pairing-factor p x a [] φ = ≈-eq p (omega arith)
pairing-factor p x a (b ∷ g) φ =
    by (≈-plus (≈-times (φ 0) (≈-reduced p (a + negative p x * b))) (pairing-factor p x b g (λ k. φ (suc k)))) (omega arith)

pub factor-sum : (p x a : ℕ) (g : List ℕ) → times_factor p x (a ∷ g) ≋⟨ p ⟩ sum (a ∷ []) (product (factor p x) g)
unfolding pairing
factor-sum p x a g = by_pairings (λ φ. by (pairing-factor p x a g φ) (simp (pairing-sum, pairing-product, zero-add, one-add) (omega arith)))

pub factor-value : (p x a : ℕ) (g : List ℕ) (s : ℕ) → value (times_factor p x (a ∷ g)) s ≈⟨ p ⟩ a + (negative p x + s) * value g s
unfolding value
factor-value p x a g s =
    ≈_trans (≋-value (factor-sum p x a g) s) (≈-eq p (simp (value-sum, value-product) (omega arith)))

pub factor-target : {p : ℕ} → 1 < p → (x : ℕ) (xs : List ℕ) → times_factor p x (0 ∷ target p xs) ≡ target p (x ∷ xs)
unfolding pairing target
factor-target {p} above x xs =
    let z = target p xs in
    let t = product (factor p x) z in
    words-equal
    (simp (length-factor, length-target) (omega (arith, length-target p (x ∷ xs))))
    (words-factor (omega arith) x (0 ∷ z) (words-cons (omega arith) (target-words above xs)))
    (target-words above (x ∷ xs))
    (≋_trans (by_pairings (λ φ. by (pairing-factor p x 0 z φ) (simp (pairing-product, zero-add, one-add) (omega arith)))) (≋_sym (≋-reduced p t)))
