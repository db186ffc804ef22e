-- The law of the product's loop: what it adds into a room is the product; in a room of zeros it leaves the product's words.
-- RULES 4.
use mathlib.Core.Path.{◌≡◌, refl, sym, ◌∙◌}
use mathlib.Core.List.{List, [], ◌∷◌, ◌++◌}
use Prim.Native.Nat.{ℕ, zero, suc, ◌+◌, ◌*◌, ◌-◌, ◌^◌, ◌<◌, ◌≤◌}
use native.Mathlib.Omega.{arith}
use lib.ListN.{length, take, drop, length-append, length-take, length-drop, length-replicate}
use Rattle.algebra.specs.Congruence.{◌≈⟨◌⟩◌}
use Rattle.algebra.specs.Polynomial.{Words, value, product, reduced}
use Rattle.algebra.proofs.Congruence.{≈_refl, ≈-eq, ≈_sym, ≈_trans, ≈-plus, by}
use Rattle.algebra.proofs.Polynomial.{length-sum, length-multiple, length-reduced, value-product}
use Rattle.algebra.proofs.Pairing.{pairing, pairings, by_pairings, pairing-sum, pairing-multiple, value-pairing}
use Rattle.algebra.proofs.Same.{≋-value, ≋-reduced, reduced-words, words-equal}
use Rattle.poly.specs.AddScaled.{scaled}
use Rattle.slices.specs.Zeros.{zeros}
use Rattle.poly.specs.Product.{add_product, padded}
use Rattle.poly.proofs.Words.{words_append, words_take, words-drop, words-zero, pairing-append, pairing-zeros}
use Rattle.poly.proofs.ScaledLaws.{length-scaled, words-scaled, pairing-scaled}

pub length-add_product : (p : ℕ) (f g room : List ℕ) → length (add_product p f g room) ≡ length room
unfolding add_product
length-add_product p [] g room = refl
length-add_product p (a ∷ f) g room =
    let s = scaled p a g room in
    rw (length-append, length-add_product p f g (drop 1 s), length-take, length-drop, length-scaled) (omega arith)

pub words-add_product : {p : ℕ} → 0 < p → (f g room : List ℕ) → Words p room → Words p (add_product p f g room)
unfolding add_product
words-add_product h [] g room w = w
words-add_product {p} h (a ∷ f) g room w =
    let s = scaled p a g room in
    let ws : Words p s = words-scaled h a g room w in
    words_append (take 1 s) _ (words_take 1 s ws) (words-add_product h f g (drop 1 s) (words-drop 1 s ws))

-- the first word of the room is done, the product goes into the rest
after_first : {p : ℕ} (f g s rest : List ℕ) (φ : ℕ → ℕ) →
    pairing rest (λ k. φ (suc k)) ≈⟨ p ⟩ pairing (drop 1 s) (λ k. φ (suc k)) + pairing (product f g) (λ k. φ (suc k)) →
    length rest ≡ length (drop 1 s) → length f + length g ≤ length s →
    pairing (take 1 s ++ rest) φ ≈⟨ p ⟩ pairing s φ + pairing (product f g) (λ k. φ (suc k))
unfolding pairing product
after_first {p} f g (b ∷ s) rest φ h size fits = by h (omega arith)
after_first {p} [] g [] [] φ h size fits = ≈_refl p 0
after_first {p} (a ∷ f) g [] rest φ h size fits = absurd (omega arith)
after_first {p} [] g [] (b ∷ rest) φ h size fits = absurd (omega arith)

pub pairing-add_product : (p : ℕ) (f g room : List ℕ) (φ : ℕ → ℕ) → length f + length g ≤ length room + 1 →
    pairing (add_product p f g room) φ ≈⟨ p ⟩ pairing room φ + pairing (product f g) φ
unfolding add_product product pairing
pairing-add_product p [] g room φ fits = ≈-eq p (omega arith)
pairing-add_product p (a ∷ f) g room φ fits =
    let s = scaled p a g room in
    let size : length s ≡ length room = length-scaled p a g room in
    let less : length (drop 1 s) ≡ length s - 1 = length-drop 1 s in
    let rest = after_first f g s (add_product p f g (drop 1 s)) φ (pairing-add_product p f g (drop 1 s) (λ k. φ (suc k)) (omega arith))
    (length-add_product p f g (drop 1 s)) (omega arith) in
    by (≈-plus rest (pairing-scaled p a g room φ (omega arith)))
    (simp (pairing-sum, pairing-multiple) (omega arith))

pub length-product-fits : (f g : List ℕ) (n : ℕ) → length f ≤ n → length f + length g ≤ n + 1 → length (product f g) ≤ n
unfolding product
length-product-fits [] g n hf h = omega arith
length-product-fits (a ∷ f) g zero hf h = absurd (omega arith)
length-product-fits (a ∷ f) g (suc n) hf h =
    rw (length-sum, length-multiple) (omega (arith, length-product-fits f g n (omega arith) (omega arith)))

pub length-padded : (n : ℕ) (f : List ℕ) → length f ≤ n → length (padded n f) ≡ n
unfolding padded zeros
length-padded n f h = rw (length-append, length-replicate) (omega arith)

pub words-padded : {p : ℕ} → 0 < p → (n : ℕ) (f : List ℕ) → Words p f → Words p (padded n f)
unfolding padded zeros
words-padded h n f w = words_append f _ w (words-zero h (n - length f))

pub pairing-padded : (n : ℕ) (f : List ℕ) (φ : ℕ → ℕ) → pairing (padded n f) φ ≡ pairing f φ
unfolding padded zeros
pairing-padded n f φ = rw (pairing-append, pairing-zeros) (omega arith)

module _ {p : ℕ} (positive : 0 < p) (f g : List ℕ) (n : ℕ) where
  -- the room holds the product's words, and 0 after them
  pub product_in_zeros : length f ≤ n → length f + length g ≤ n + 1 → add_product p f g (zeros n) ≡ padded n (reduced p (product f g))
  unfolding zeros
  product_in_zeros few fits =
      words-equal
      (length-add_product p f g (zeros n) ∙ length-replicate {A = ℕ} n 0 ∙
      sym (length-padded n (reduced p (product f g)) (rw (length-reduced p (product f g)) (length-product-fits f g n few fits))))
      (words-add_product positive f g (zeros n) (words-zero positive n))
      (words-padded positive n (reduced p (product f g)) (reduced-words positive (product f g)))
      (by_pairings (λ φ.
      rw (pairing-padded n (reduced p (product f g)) φ)
      (by
      (≈-plus (pairing-add_product p f g (zeros n) φ (rw (length-replicate {A = ℕ} n 0) fits))
      (≈_sym (pairings (reduced p (product f g)) (product f g) (≋-reduced p (product f g)) φ)))
      (omega (arith, pairing-zeros n φ)))))

  pub product_value : (s : ℕ) → value (padded n (reduced p (product f g))) s ≈⟨ p ⟩ value f s * value g s
  product_value s =
      let words = reduced p (product f g) in
      rw (value-pairing (padded n words) s, pairing-padded n words (λ k. s ^ k), ← value-pairing words s)
      (≈_trans (≋-value (≋-reduced p (product f g)) s) (≈-eq p (value-product f g s)))
