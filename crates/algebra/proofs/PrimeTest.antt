-- Trial division, as a test that the checker computes, and its soundness: a number that passes is prime. RULES 1.
use mathlib.Core.Path.{◌≡◌, refl, ◌∙◌}
use mathlib.Core.Logic.{⊎_elim}
use mathlib.Core.Bool.{Bool, true, false}
use Prim.Native.Nat.{ℕ, zero, suc, ◌*◌, ◌%◌, ◌<◌, ◌≤◌}
use native.Mathlib.Nat.{mul_comm, mul-le-mul, mul-mod_right, eq-or-lt_of_le}
use native.Mathlib.Omega.{arith}
use lib.Dec.{T, ltb, eqb}
use borrow.Author.Tests.{ltb-true, eqb-false}
use Rattle.algebra.specs.Prime.{Prime}

-- none of d, d + 1, .. up to the root of p divides p; n bounds the trials
undivided : ℕ → ℕ → ℕ → Bool
undivided zero p d = false
undivided (suc n) p d =
    elim (ltb p (d * d)) [ true ↦ true | false ↦ elim (eqb (p % d) 0) [ true ↦ false | false ↦ undivided n p (suc d) ] ]

-- enough trials for every number of 32 bits
unfoldable pub is_prime : ℕ → Bool
unfolding undivided
is_prime p = elim (ltb 1 p) [ true ↦ undivided 65536 p 2 | false ↦ false ]

-- what does not divide p is no factor of p
apart : {p d a : ℕ} (b : ℕ) → (p % d ≡ 0 → ⊥) → d ≤ a → a * b ≡ p → d < a
apart {p} {d} {a} b refuted le e =
    ⊎_elim (λ (h : d ≡ a). absurd (refuted (rw (← e, h) (mul-mod_right a b)))) (λ h. h) (eq-or-lt_of_le le)

no_factor : (n p d : ℕ) → T (undivided n p d) → (a b : ℕ) → d ≤ a → d ≤ b → a * b ≡ p → ⊥
unfolding undivided
no_factor zero p d t a b da db e = t
no_factor (suc n) p d t a b da db e = go (ltb p (d * d)) refl (eqb (p % d) 0) refl (no_factor n p (suc d)) t
  where
    go : (x : Bool) → ltb p (d * d) ≡ x → (y : Bool) → eqb (p % d) 0 ≡ y →
        (T (undivided n p (suc d)) → (a b : ℕ) → suc d ≤ a → suc d ≤ b → a * b ≡ p → ⊥) →
        T (elim x [ true ↦ true | false ↦ elim y [ true ↦ false | false ↦ undivided n p (suc d) ] ]) → ⊥
    go true hx y hy next _ = omega (arith, mul-le-mul da db, ltb-true p (d * d) hx)
    go false hx true hy next k = k
    go false hx false hy next k =
        next k a b (apart b (eqb-false _ _ hy) da e) (apart a (eqb-false _ _ hy) db (mul_comm b a ∙ e)) e

pub prime : (p : ℕ) → T (is_prime p) → Prime p
unfolding is_prime
prime p t = go (ltb 1 p) refl t
  where
    go : (x : Bool) → ltb 1 p ≡ x → T (elim x [ true ↦ undivided 65536 p 2 | false ↦ false ]) → Prime p
    go true hx k = record { above_one = ltb-true _ _ hx; no_product = no_factor 65536 p 2 k }
    go false hx k = absurd k

-- the test refuses a composite number
pub refuses : is_prime 2147483651 ≡ false
unfolding is_prime
refuses = refl
