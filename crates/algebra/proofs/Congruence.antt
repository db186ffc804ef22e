-- The laws of congruence: it is an equivalence, goes under sums and multiples, and a summand cancels.
-- `by` is the road of every later proof: a congruence follows from one in hand by an equation of ℕ.
use mathlib.Core.Path.{◌≡◌, refl, sym, ◌∙◌, ap}
use mathlib.Core.Logic.{◌⊎◌, inl, inr, ⊎_elim}
use Prim.Native.Nat.{ℕ, zero, suc, ◌+◌, ◌*◌, ◌-◌, ◌%◌, ◌<◌}
use native.Mathlib.Nat.{add-mod, mod-zero, zero-mod, eq-zero-or-pos, mod-mod, mod-eq_of_lt, add-mul-mod_self_left}
use native.Mathlib.Omega.{arith}
use Rattle.algebra.specs.Congruence.{◌≈⟨◌⟩◌, negative}

pub ≈_refl : (p a : ℕ) → a ≈⟨ p ⟩ a
≈_refl p a = record { same = refl }

pub ≈-eq : (p : ℕ) {a b : ℕ} → a ≡ b → a ≈⟨ p ⟩ b
≈-eq p h = record { same = rw h }

pub ≈_sym : {p a b : ℕ} → a ≈⟨ p ⟩ b → b ≈⟨ p ⟩ a
≈_sym h = record { same = sym h.same }

pub ≈_trans : {p a b c : ℕ} → a ≈⟨ p ⟩ b → b ≈⟨ p ⟩ c → a ≈⟨ p ⟩ c
≈_trans h k = record { same = h.same ∙ k.same }

pub ≈-plus : {p a b c d : ℕ} → a ≈⟨ p ⟩ b → c ≈⟨ p ⟩ d → a + c ≈⟨ p ⟩ b + d
≈-plus {p} {a} {b} {c} {d} h k = record { same = cc (add-mod a c p, add-mod b d p) }

≈-more : {p a b : ℕ} → a ≈⟨ p ⟩ b → (c : ℕ) → a + c ≈⟨ p ⟩ b + c
≈-more {p} h c = ≈-plus h (≈_refl p c)

-- multiples of p do not count
pub ≈-whole : (p a k : ℕ) → a + p * k ≈⟨ p ⟩ a
≈-whole p a k = record { same = add-mul-mod_self_left a p k }

pub ≈-cancel : {p a b : ℕ} (c : ℕ) → a + c ≈⟨ p ⟩ b + c → a ≈⟨ p ⟩ b
≈-cancel {p = zero} {a} {b} c h = ≈-eq 0 (omega (arith, simp mod-zero at h.same))
≈-cancel {p = suc n} {a} {b} c h =
    let e : (x : ℕ) → x + c + n * c ≡ x + suc n * c = λ x. omega arith in
    ≈_trans (≈_sym (≈-whole (suc n) a c))
    (≈_trans (rw (e a, e b) at (≈-more h (n * c))) (≈-whole (suc n) b c))

-- from x ≈ y, a ≈ b follows where a + y and b + x are the same number
pub by : {p a b x y : ℕ} → x ≈⟨ p ⟩ y → a + y ≡ b + x → a ≈⟨ p ⟩ b
by {p} {a} {b} {x} {y} h e = ≈-cancel y (≈_trans (≈-eq p e) (≈-plus (≈_refl p b) h))

pub ≈-times : {p a b : ℕ} (k : ℕ) → a ≈⟨ p ⟩ b → k * a ≈⟨ p ⟩ k * b
≈-times {p} zero h = ≈-eq p (omega arith)
≈-times (suc k) h = by (≈-plus (≈-times k h) h) (omega arith)

pub ≈-product : {p a b c d : ℕ} → a ≈⟨ p ⟩ b → c ≈⟨ p ⟩ d → a * c ≈⟨ p ⟩ b * d
≈-product {p} {a} {b} {c} {d} h k = by (≈-plus (≈-times a k) (≈-times d h)) (omega arith)

pub ≈-reduced : (p a : ℕ) → a % p ≈⟨ p ⟩ a
≈-reduced p a = record { same = mod-mod a p }

-- words are equal where they are congruent
pub ≈-words : {p a b : ℕ} → a ≈⟨ p ⟩ b → a < p → b < p → a ≡ b
≈-words h ha hb = sym (mod-eq_of_lt ha) ∙ h.same ∙ mod-eq_of_lt hb

pub ≈-negative : {p : ℕ} → 0 < p → (a : ℕ) → negative p a + a ≈⟨ p ⟩ 0
≈-negative {p = zero} h a = elim h [ ]
≈-negative {p = suc n} h a =
    let e : suc n - 1 ≡ n = omega arith in
    by (≈-whole (suc n) 0 a) (omega (arith, ap (λ (x : ℕ). x * a) e))

-- 0 or not is decided by the remainder
zero-remainder : (p a : ℕ) → a % p ≡ 0 → a ≈⟨ p ⟩ 0
zero-remainder p a h = record { same = h ∙ sym (zero-mod p) }

pub zero_or_not : (p a : ℕ) → (a ≈⟨ p ⟩ 0) ⊎ (a ≈⟨ p ⟩ 0 → ⊥)
zero_or_not p a =
    ⊎_elim (λ (h : a % p ≡ 0). inl (zero-remainder p a h)) (λ (h : 0 < a % p). inr (λ k. omega (arith, k.same, zero-mod p)))
    (eq-zero-or-pos (a % p))

pub remainder-positive : {p : ℕ} (a : ℕ) → (a ≈⟨ p ⟩ 0 → ⊥) → 0 < a % p
remainder-positive {p} a nonzero =
    ⊎_elim (λ (h : a % p ≡ 0). absurd (nonzero (zero-remainder p a h))) (λ h. h) (eq-zero-or-pos (a % p))
