-- The same polynomial: an equivalence, with equal values everywhere; two lists of as many words that are the same
-- polynomial are the same list.
use mathlib.Core.Path.{◌≡◌}
use mathlib.Core.List.{List}
use Prim.Native.Nat.{ℕ, ◌^◌, ◌<◌}
use native.Mathlib.Nat.{mod-lt}
use lib.ListN.{length, get_or}
use lib.Seq.{ext_get_or}
use Rattle.algebra.specs.Congruence.{◌≈⟨◌⟩◌}
use Rattle.algebra.specs.Polynomial.{Words, value, reduced, ◌≋⟨◌⟩◌}
use Rattle.algebra.proofs.Congruence.{≈_refl, ≈_sym, ≈_trans, ≈-reduced, ≈-words}
use Rattle.algebra.proofs.Polynomial.{coefficient-reduced}
use Rattle.algebra.proofs.Pairing.{pairings, value-pairing}

pub ≋_refl : (p : ℕ) (f : List ℕ) → f ≋⟨ p ⟩ f
≋_refl p f = record { coefficient = λ k. ≈_refl p (get_or f k 0) }

pub ≋_sym : {p : ℕ} {f g : List ℕ} → f ≋⟨ p ⟩ g → g ≋⟨ p ⟩ f
≋_sym h = record { coefficient = λ k. ≈_sym (h.coefficient k) }

pub ≋_trans : {p : ℕ} {f g l : List ℕ} → f ≋⟨ p ⟩ g → g ≋⟨ p ⟩ l → f ≋⟨ p ⟩ l
≋_trans h k = record { coefficient = λ i. ≈_trans (h.coefficient i) (k.coefficient i) }

pub ≋-value : {p : ℕ} {f g : List ℕ} → f ≋⟨ p ⟩ g → (s : ℕ) → value f s ≈⟨ p ⟩ value g s
≋-value {p} {f} {g} h s = rw (value-pairing f s, value-pairing g s) (pairings f g h (λ k. s ^ k))

pub ≋-reduced : (p : ℕ) (f : List ℕ) → reduced p f ≋⟨ p ⟩ f
≋-reduced p f = record { coefficient = λ k. rw (coefficient-reduced p f k) (≈-reduced p (get_or f k 0)) }

pub reduced-words : {p : ℕ} → 0 < p → (f : List ℕ) → Words p (reduced p f)
reduced-words {p} positive f = record { below = λ i h. rw (coefficient-reduced p f i) (mod-lt (get_or f i 0) positive) }

pub words-equal : {p : ℕ} {f g : List ℕ} → length f ≡ length g → Words p f → Words p g → f ≋⟨ p ⟩ g → f ≡ g
words-equal {p} {f} {g} size wf wg h =
    ext_get_or 0 f g size (λ i l. ≈-words (h.coefficient i) (wf.below i l) (wg.below i (rw size at l)))
