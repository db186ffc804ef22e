-- The field: modulo a prime every number but 0 has exactly one inverse; no zero divisors, cancellation,
-- and exactly one word d with a + d z = v (the blinder of demand 3). RULES 1.
use mathlib.Core.Path.{◌≡◌, ap}
use mathlib.Core.Logic.{◌⊎◌, inl, inr, ⊎_elim}
use Prim.Native.Nat.{ℕ, zero, suc, ◌+◌, ◌*◌, ◌/◌, ◌%◌, ◌<◌, ◌≤◌}
use native.Mathlib.Nat.{mod-lt, mod-add-div', eq-zero-or-pos, eq-or-lt_of_le, lt_of_mul-lt-mul_right}
use native.Mathlib.Omega.{arith}
use Rattle.algebra.specs.Congruence.{◌≈⟨◌⟩◌, negative, Inverse}
use Rattle.algebra.specs.Prime.{Prime}
use Rattle.algebra.proofs.Congruence.{≈-eq, ≈_sym, ≈_trans, ≈-plus, ≈-times, ≈-product, ≈-whole, zero_or_not, remainder-positive, ≈-reduced, ≈-words, ≈-negative, by}

module _ {p : ℕ} (prime : Prime p) where
  pub positive : 0 < p
  positive = omega (arith, prime.above_one)

  -- a number between 1 and p does not divide p
  pub leaves : (a : ℕ) → 1 < a → a < p → 0 < p % a
  leaves a above below = ⊎_elim
      (λ (h : p % a ≡ 0).
      let e : p / a * a ≡ p = omega (arith, mod-add-div' p a) in
      absurd (prime.no_product (p / a) a (lt_of_mul-lt-mul_right a (omega arith)) above e))
      (λ h. h) (eq-zero-or-pos (p % a))

  -- p is q a + r, so minus q times the inverse c of r is the inverse of a
  from_remainder : (a c : ℕ) → p % a * c ≈⟨ p ⟩ 1 → a * negative p (p / a * c) ≈⟨ p ⟩ 1
  from_remainder a c h =
      let whole : (p % a + p / a * a) * c ≡ p * c = ap (λ (x : ℕ). x * c) (mod-add-div' p a) in
      by (≈-plus (≈-plus (≈-negative positive (a * (p / a * c))) (≈_sym (≈-whole p 0 c))) h) (omega arith)

  -- the remainder is less than a
  invert : (n a : ℕ) → a ≤ n → 0 < a → a < p → (b : ℕ) × (a * b ≈⟨ p ⟩ 1)
  invert zero a le pos below = absurd (omega arith)
  invert (suc n) a le pos below = ⊎_elim
      (λ (h : 1 ≡ a). (1, ≈-eq p (omega arith)))
      (λ (h : 1 < a).
      let less : p % a < a = mod-lt p (omega arith) in
      let next = invert n (p % a) (omega arith) (leaves a h below) (omega arith) in
      (negative p (p / a * next.0), from_remainder a next.0 next.1))
      (eq-or-lt_of_le pos)

  pub inverse : (a : ℕ) → (a ≈⟨ p ⟩ 0 → ⊥) → (b : ℕ) × Inverse p a b
  inverse a nonzero =
      let below : a % p < p = mod-lt a positive in
      let found = invert p (a % p) (omega arith) (remainder-positive a nonzero) below in (
        found.0 % p,
        record {
          word = mod-lt found.0 positive;
          leaves_one = ≈_trans (≈-product (≈_sym (≈-reduced p a)) (≈-reduced p found.0)) found.1;
        },
      )

  pub cancel : {a b : ℕ} (c : ℕ) → (c ≈⟨ p ⟩ 0 → ⊥) → a * c ≈⟨ p ⟩ b * c → a ≈⟨ p ⟩ b
  cancel {a} {b} c nonzero h =
      let i = inverse c nonzero in
      let one = i.1.leaves_one in
      by (≈-plus (≈-plus (≈_sym (≈-times a one)) (≈-times i.0 h)) (≈-times b one)) (omega arith)

  pub no_zero_divisors : (a b : ℕ) → a * b ≈⟨ p ⟩ 0 → (a ≈⟨ p ⟩ 0) ⊎ (b ≈⟨ p ⟩ 0)
  no_zero_divisors a b h = ⊎_elim (λ k. inr k)
      (λ nonzero. inl (cancel b nonzero (≈_trans h (≈-eq p (omega arith))))) (zero_or_not p b)

  pub inverse_unique : {a b c : ℕ} → Inverse p a b → Inverse p a c → b ≡ c
  inverse_unique {a} {b} {c} h k =
      ≈-words (by (≈-plus (≈-times c h.leaves_one) (≈-times b (≈_sym k.leaves_one))) (omega arith)) h.word k.word

  -- exactly one word d with a + d z = v
  pub solve : (z : ℕ) → (z ≈⟨ p ⟩ 0 → ⊥) → (a v : ℕ) → (d : ℕ) × (d < p) × (a + d * z ≈⟨ p ⟩ v)
  solve z nonzero a v =
      let i = inverse z nonzero in
      let d = (v + negative p a) * i.0 in
      let facts = ≈-plus (≈-plus (≈-times z (≈-reduced p d)) (≈-times (v + negative p a) i.1.leaves_one)) (≈-negative positive a) in
      (d % p, mod-lt d positive, by facts (omega arith))

  pub solve_unique : (z : ℕ) → (z ≈⟨ p ⟩ 0 → ⊥) → (a : ℕ) {v d e : ℕ} → d < p → e < p → a + d * z ≈⟨ p ⟩ v → a + e * z ≈⟨ p ⟩ v → d ≡ e
  solve_unique z nonzero a {v} {d} {e} hd he h k =
      ≈-words (cancel z nonzero (by (≈-plus h (≈_sym k)) (omega arith))) hd he
