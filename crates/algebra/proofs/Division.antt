-- Division by the target: a list that is 0 at all points is the target times exactly one list of words, and conversely.
-- One factor X − x at a time: `divided` finds the quotient, `factor-cancel` shows it is the only one. RULES 4.
use mathlib.Core.Path.{◌≡◌, sym, ◌∙◌}
use mathlib.Core.List.{List, [], ◌∷◌}
use Prim.Native.Nat.{ℕ, zero, suc, ◌+◌, ◌*◌, ◌<◌}
use native.Mathlib.Nat.{zero-add, suc-add}
use native.Mathlib.Numerals.{one-add}
use native.Mathlib.Omega.{arith}
use lib.ListN.{get_or}
use Rattle.algebra.specs.Congruence.{◌≈⟨◌⟩◌, negative}
use Rattle.algebra.specs.Prime.{Prime}
use Rattle.algebra.specs.Polynomial.{value, divided, product, reduced, ◌≋⟨◌⟩◌}
use Rattle.algebra.specs.Points.{Distinct, Vanishes, factor, target, Quotient}
use Rattle.algebra.proofs.Congruence.{≈_sym, ≈_trans, ≈-plus, ≈-times, ≈-negative, ≈-eq, by}
use Rattle.algebra.proofs.Inverse.{positive}
use Rattle.algebra.proofs.Polynomial.{length-reduced, value-product}
use Rattle.algebra.proofs.Pairing.{pairing, pairings, by_pairings, pairing-product}
use Rattle.algebra.proofs.Same.{≋_refl, ≋_sym, ≋_trans, ≋-value, ≋-reduced, reduced-words, words-equal}
use Rattle.algebra.proofs.Difference.{difference, pairing-difference, difference-zero}
use Rattle.algebra.proofs.Roots.{length-divided, divided-pairing, vanishes-divided, distinct-rest}
use Rattle.algebra.proofs.Target.{target-zero}

-- times X + c, paired
pub pairing-factor : (c : ℕ) (f : List ℕ) (φ : ℕ → ℕ) → pairing (product (c ∷ 1 ∷ []) f) φ ≡ c * pairing f φ + pairing f (λ k. φ (suc k))
unfolding pairing
pairing-factor c f φ = simp (pairing-product, zero-add, one-add) (omega arith)

pub factor-same : {p : ℕ} (c : ℕ) (f g : List ℕ) → f ≋⟨ p ⟩ g → product (c ∷ 1 ∷ []) f ≋⟨ p ⟩ product (c ∷ 1 ∷ []) g
factor-same c f g h = by_pairings (λ φ. rw (pairing-factor c f φ, pairing-factor c g φ) (≈-plus (≈-times c (pairings f g h φ)) (pairings f g h (λ k. φ (suc k)))))

-- φ one place later
later : (ℕ → ℕ) → ℕ → ℕ
later φ zero = 0
later φ (suc k) = φ k

-- a constant plus (X + c) q is 0 only where q is 0
factor-zero : {p : ℕ} (c d : ℕ) (q : List ℕ) → ((φ : ℕ → ℕ) → d * φ 0 + (c * pairing q φ + pairing q (λ k. φ (suc k))) ≈⟨ p ⟩ 0) → q ≋⟨ p ⟩ []
unfolding pairing later
factor-zero {p} c d [] h = ≋_refl p []
factor-zero {p} c d (e ∷ q) h = record { coefficient = at (factor-zero c e q next) }
  where
    next : (φ : ℕ → ℕ) → e * φ 0 + (c * pairing q φ + pairing q (λ k. φ (suc k))) ≈⟨ p ⟩ 0
    next φ = by (h (later φ)) (omega arith)

    at : q ≋⟨ p ⟩ [] → (k : ℕ) → get_or (e ∷ q) k 0 ≈⟨ p ⟩ get_or [] k 0
    at rest zero =
        let zero-q = pairings q [] rest (λ k. 1) in
        by (≈-plus (≈-plus (next (λ k. 1)) (≈-times c (≈_sym zero-q))) (≈_sym zero-q)) (omega arith)
    at rest (suc k) = rest.coefficient k

pub factor-cancel : {p : ℕ} → 0 < p → (c : ℕ) (f g : List ℕ) → product (c ∷ 1 ∷ []) f ≋⟨ p ⟩ product (c ∷ 1 ∷ []) g → f ≋⟨ p ⟩ g
factor-cancel {p} pos c f g h = difference-zero pos f g (factor-zero c 0 (difference p f g) (λ φ.
    let later : ℕ → ℕ = λ k. φ (suc k) in
    let right = c * pairing g φ + pairing g later in
    let same = rw (pairing-factor c f φ, pairing-factor c g φ) at (pairings (product (c ∷ 1 ∷ []) f) (product (c ∷ 1 ∷ []) g) h φ) in
    rw (pairing-difference p f g φ, pairing-difference p f g later) (by (≈-plus same (≈-negative pos right)) (omega arith))))

-- the target times h, one factor at a time
target-product : (p x : ℕ) (xs h : List ℕ) → product (target p (x ∷ xs)) h ≋⟨ p ⟩ product (factor p x) (product (target p xs) h)
unfolding target
target-product p x xs h = by_pairings (λ φ.
    let z = target p xs in
    let t = product (factor p x) z in
    let ψ : ℕ → ℕ = λ i. pairing h (λ j. φ (i + j)) in
    rw (pairing-product (reduced p t) h φ, pairing-factor (negative p x) (product z h) φ)
    (≈_trans (pairings (reduced p t) t (≋-reduced p t) ψ)
    (≈-eq p (simp (pairing-factor (negative p x) z ψ, pairing-product z h, suc-add)))))

-- what is 0 at x is X − x times its quotient
pub divided-exact : {p : ℕ} → 0 < p → (x : ℕ) (f : List ℕ) → value f x ≈⟨ p ⟩ 0 → f ≋⟨ p ⟩ product (factor p x) (divided x f)
divided-exact {p} pos x f h = by_pairings (λ φ.
    let q = divided x f in
    rw (pairing-factor (negative p x) q φ)
    (by (≈-plus (≈-times (φ 0) h) (≈_sym (≈-negative pos (x * pairing q φ)))) (omega (arith, divided-pairing x f φ))))

target_none : (p : ℕ) (h : List ℕ) → product (target p []) h ≋⟨ p ⟩ h
unfolding target pairing
target_none p h = by_pairings (λ φ. ≈-eq p (simp (pairing-product, zero-add) (omega arith)))

pub division : {p : ℕ} → Prime p → (xs f : List ℕ) → Distinct p xs → Vanishes p f xs → (h : List ℕ) × Quotient p xs f h
division {p} prime [] f d v = (
  reduced p f,
  record {
    size = omega (arith, length-reduced p f);
    words = reduced-words (positive prime) f;
    exact = ≋_sym (≋_trans (target_none p (reduced p f)) (≋-reduced p f));
  },
)
division {p} prime (x ∷ xs) f d v =
    let (h, q) = division prime xs (divided x f) (distinct-rest d) (vanishes-divided prime f d v) in (
      h,
      record {
        size = omega (arith, q.size, length-divided x f);
        words = q.words;
        exact = ≋_trans (divided-exact (positive prime) x f (v.zero_at 0 (omega arith)))
            (≋_trans (factor-same (negative p x) (divided x f) (product (target p xs) h) q.exact) (≋_sym (target-product p x xs h)));
      },
    )

pub target-cancel : {p : ℕ} → 0 < p → (xs g h : List ℕ) → product (target p xs) g ≋⟨ p ⟩ product (target p xs) h → g ≋⟨ p ⟩ h
target-cancel {p} pos [] g h e = ≋_trans (≋_sym (target_none p g)) (≋_trans e (target_none p h))
target-cancel {p} pos (x ∷ xs) g h e =
    target-cancel pos xs g h (factor-cancel pos (negative p x) (product (target p xs) g) (product (target p xs) h)
    (≋_trans (≋_sym (target-product p x xs g)) (≋_trans e (target-product p x xs h))))

pub division_unique : {p : ℕ} → 0 < p → {xs f g h : List ℕ} → Quotient p xs f g → Quotient p xs f h → g ≡ h
division_unique pos {xs} {f} {g} {h} s t =
    words-equal (s.size ∙ sym t.size) s.words t.words
    (target-cancel pos xs g h (≋_trans (≋_sym s.exact) t.exact))

pub division_converse : {p : ℕ} → 0 < p → (xs f h : List ℕ) → f ≋⟨ p ⟩ product (target p xs) h → Vanishes p f xs
division_converse {p} pos xs f h e = record {
  zero_at = λ i l. let x = get_or xs i 0 in
      ≈_trans (≋-value e x) (rw value-product (by (≈-times (value h x) ((target-zero pos xs).zero_at i l)) (omega arith)));
}
