-- The laws of dst + k · src: it keeps the length and the words, and in pairings it is the sum that it says.
use mathlib.Core.Path.{◌≡◌, refl, ap}
use mathlib.Core.List.{List, [], ◌∷◌}
use Prim.Native.Nat.{ℕ, suc, ◌+◌, ◌*◌, ◌<◌, ◌≤◌}
use native.Mathlib.Nat.{mod-lt}
use native.Mathlib.Omega.{arith}
use lib.ListN.{length}
use Rattle.algebra.specs.Congruence.{◌≈⟨◌⟩◌}
use Rattle.algebra.specs.Polynomial.{Words, sum, multiple, ◌≋⟨◌⟩◌}
use Rattle.algebra.proofs.Congruence.{≈_refl, ≈-eq, ≈-plus, ≈-times, ≈-reduced, by}
use Rattle.algebra.proofs.Pairing.{pairing, by_pairings, pairing-sum, pairing-multiple}
use Rattle.poly.specs.AddScaled.{scaled}
use Rattle.poly.proofs.Slices.{same_word}
use Rattle.poly.proofs.Words.{words-cons, words-rest}

-- nothing is written where there is no room
pub scaled-nil : (p k : ℕ) (src : List ℕ) → scaled p k src [] ≡ []
unfolding scaled
scaled-nil p k [] = refl
scaled-nil p k (b ∷ src) = refl

pub length-scaled : (p k : ℕ) (src dst : List ℕ) → length (scaled p k src dst) ≡ length dst
unfolding scaled
length-scaled p k [] dst = refl
length-scaled p k (b ∷ src) [] = refl
length-scaled p k (b ∷ src) (a ∷ dst) = ap suc (length-scaled p k src dst)

-- only k modulo p counts
pub scaled-same : {p k l : ℕ} → k ≈⟨ p ⟩ l → (src dst : List ℕ) → scaled p k src dst ≡ scaled p l src dst
unfolding scaled
scaled-same h [] dst = refl
scaled-same h (b ∷ src) [] = refl
scaled-same {p} h (b ∷ src) (a ∷ dst) = cc (same_word a h (≈_refl p b), scaled-same h src dst)

pub words-scaled : {p : ℕ} → 0 < p → (k : ℕ) (src dst : List ℕ) → Words p dst → Words p (scaled p k src dst)
unfolding scaled
words-scaled h k [] dst w = w
words-scaled h k (b ∷ src) [] w = w
words-scaled h k (b ∷ src) (a ∷ dst) w = words-cons (mod-lt (a + k * b) h) (words-scaled h k src dst (words-rest w))

-- the law of the loop: dst plus k times src, where src fits
pub pairing-scaled : (p k : ℕ) (src dst : List ℕ) (φ : ℕ → ℕ) → length src ≤ length dst →
    pairing (scaled p k src dst) φ ≈⟨ p ⟩ pairing dst φ + k * pairing src φ
unfolding scaled pairing
pairing-scaled p k [] dst φ h = ≈-eq p (omega arith)
pairing-scaled p k (b ∷ src) [] φ h = absurd (omega arith)
pairing-scaled p k (b ∷ src) (a ∷ dst) φ h =
    by (≈-plus (≈-times (φ 0) (≈-reduced p (a + k * b))) (pairing-scaled p k src dst (λ i. φ (suc i)) (omega arith))) (omega arith)

pub scaled-sum : (p k : ℕ) (src dst : List ℕ) → length src ≤ length dst → scaled p k src dst ≋⟨ p ⟩ sum dst (multiple k src)
scaled-sum p k src dst h = by_pairings (λ φ. rw (pairing-sum, pairing-multiple) (pairing-scaled p k src dst φ h))
