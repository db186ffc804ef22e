-- Lists of words, part by part; and a list paired with a sequence, part by part.
use mathlib.Core.Path.{◌≡◌, refl}
use mathlib.Core.List.{List, [], ◌∷◌, ◌++◌}
use Prim.Native.Nat.{ℕ, zero, suc, ◌+◌, ◌<◌}
use native.Mathlib.Nat.{zero-add, suc-add}
use native.Mathlib.Omega.{arith}
use lib.ListN.{length, take, drop, replicate, length-drop}
use lib.Seq.{get_or-drop}
use Rattle.algebra.specs.Polynomial.{Each, Words}
use Rattle.algebra.proofs.Pairing.{pairing}

pub words-cons : {p a : ℕ} {f : List ℕ} → a < p → Words p f → Words p (a ∷ f)
words-cons {p} {a} {f} h w = record { below = at }
  where
    at : Each (λ b. b < p) (a ∷ f)
    at zero l = h
    at (suc i) l = w.below i (omega arith)

pub words-first : {p a : ℕ} {f : List ℕ} → Words p (a ∷ f) → a < p
words-first w = w.below 0 (omega arith)

pub words-rest : {p a : ℕ} {f : List ℕ} → Words p (a ∷ f) → Words p f
words-rest w = record { below = λ i l. w.below (suc i) (omega arith) }

pub words-drop : {p : ℕ} (n : ℕ) (f : List ℕ) → Words p f → Words p (drop n f)
words-drop n f w = record { below = λ i l. rw (get_or-drop n f i 0) (w.below (n + i) (omega (arith, length-drop n f))) }

pub words_append : {p : ℕ} (f g : List ℕ) → Words p f → Words p g → Words p (f ++ g)
words_append [] g wf wg = wg
words_append (a ∷ f) g wf wg = words-cons (words-first wf) (words_append f g (words-rest wf) wg)

pub words_take : {p : ℕ} (n : ℕ) (f : List ℕ) → Words p f → Words p (take n f)
words_take zero f w = record { below = λ i l. absurd (omega arith) }
words_take (suc n) [] w = w
words_take (suc n) (a ∷ f) w = words-cons (words-first w) (words_take n f (words-rest w))

pub words-zero : {p : ℕ} → 0 < p → (n : ℕ) → Words p (replicate n 0)
words-zero h zero = record { below = λ i l. absurd (omega arith) }
words-zero h (suc n) = words-cons h (words-zero h n)

pub pairing-append : (f g : List ℕ) (φ : ℕ → ℕ) → pairing (f ++ g) φ ≡ pairing f φ + pairing g (λ k. φ (length f + k))
unfolding pairing
pairing-append [] g φ = simp zero-add
pairing-append (a ∷ f) g φ = simp suc-add (omega (arith, pairing-append f g (λ k. φ (suc k))))

pub pairing-zeros : (n : ℕ) (φ : ℕ → ℕ) → pairing (replicate n 0) φ ≡ 0
unfolding pairing
pairing-zeros zero φ = refl
pairing-zeros (suc n) φ = omega (arith, pairing-zeros n (λ k. φ (suc k)))
