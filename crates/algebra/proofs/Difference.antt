-- The difference f − g, as f plus minus one times g: 0 where the values agree, and f where it is added to g.
use mathlib.Core.Path.{◌≡◌}
use mathlib.Core.List.{List, []}
use Prim.Native.Nat.{ℕ, ◌+◌, ◌*◌, ◌-◌, ◌<◌, max}
use native.Mathlib.Omega.{arith}
use lib.ListN.{length}
use Rattle.algebra.specs.Congruence.{◌≈⟨◌⟩◌}
use Rattle.algebra.specs.Polynomial.{value, sum, multiple, ◌≋⟨◌⟩◌}
use Rattle.algebra.proofs.Congruence.{≈-plus, ≈_sym, ≈-negative, by}
use Rattle.algebra.proofs.Polynomial.{sum-nil, length-sum, length-multiple, value-sum, value-multiple}
use Rattle.algebra.proofs.Pairing.{pairing, pairings, by_pairings, pairing-sum, pairing-multiple}

pub difference : ℕ → List ℕ → List ℕ → List ℕ
difference p f g = sum f (multiple (p - 1) g)

pub length-difference : (p : ℕ) (f g : List ℕ) → length (difference p f g) ≡ max (length f) (length g)
unfolding difference
length-difference p f g = simp (length-sum, length-multiple)

pub value-difference : (p : ℕ) (f g : List ℕ) (s : ℕ) → value (difference p f g) s ≡ value f s + (p - 1) * value g s
unfolding difference
value-difference p f g s = simp (value-sum, value-multiple)

pub pairing-difference : (p : ℕ) (f g : List ℕ) (φ : ℕ → ℕ) → pairing (difference p f g) φ ≡ pairing f φ + (p - 1) * pairing g φ
unfolding difference
pairing-difference p f g φ = simp (pairing-sum, pairing-multiple)

module _ {p : ℕ} (positive : 0 < p) (f g : List ℕ) where
  pub difference-value : (s : ℕ) → value f s ≈⟨ p ⟩ value g s → value (difference p f g) s ≈⟨ p ⟩ 0
  difference-value s h = rw value-difference (by (≈-plus h (≈-negative positive (value g s))) (omega arith))

  pub difference-sum : {h : List ℕ} → difference p f g ≋⟨ p ⟩ h → f ≋⟨ p ⟩ sum g h
  difference-sum {h} e = by_pairings (λ φ.
      let d : pairing f φ + (p - 1) * pairing g φ ≈⟨ p ⟩ pairing h φ = rw pairing-difference at (pairings (difference p f g) h e φ) in
      rw (pairing-sum g h φ) (by (≈-plus d (≈_sym (≈-negative positive (pairing g φ)))) (omega arith)))

  pub difference-zero : difference p f g ≋⟨ p ⟩ [] → f ≋⟨ p ⟩ g
  difference-zero e = rw sum-nil at (difference-sum e)
