-- The steps of the basis weights at consecutive points: one factor more for a product of differences is one inverse
-- more for its weight. RULES 5.
use mathlib.Core.Path.{◌≡◌}
use Prim.Native.Nat.{ℕ, ◌+◌, ◌*◌, ◌-◌, ◌%◌, ◌<◌, ◌≤◌}
use native.Mathlib.Nat.{mod-lt}
use native.Mathlib.Omega.{arith}
use Rattle.algebra.specs.Congruence.{◌≈⟨◌⟩◌, negative, Inverse}
use Rattle.algebra.proofs.Congruence.{≈_refl, ≈_sym, ≈_trans, ≈-product, ≈-plus, ≈-times, ≈-negative, ≈-whole, ≈-reduced, by}

module _ {p : ℕ} (pos : 0 < p) where
  -- what is left of p is minus the number
  rest_of : (b : ℕ) → b ≤ p → p - b ≈⟨ p ⟩ negative p b
  rest_of b h =
      let whole : p - b + b ≡ p = omega arith in
      by (≈-plus (≈-whole p 0 1) (≈_sym (≈-negative pos b))) (omega arith)

  -- one factor −a more, where b is the inverse of a
  pub one_more : {d w a b r : ℕ} → Inverse p d w → Inverse p a b → r ≡ w * (p - b) % p → Inverse p (d * negative p a) r
  one_more {d} {w} {a} {b} old inverse e =
      let k = p - b in
      let q = p - 1 in
      rw e (record {
        word = mod-lt (w * k) pos;
        leaves_one =
            by
            (≈-plus
            (≈-plus (≈-times (d * (q * a)) (≈-reduced p (w * k))) (≈-times (d * w * (q * a)) (rest_of b (omega (arith, inverse.word)))))
            (≈-plus
            (≈-plus (≈-times (d * w) (≈-negative pos (q * (a * b)))) (≈-times (d * w) (≈_sym (≈-negative pos (a * b)))))
            (≈-plus (≈-times (d * w) inverse.leaves_one) old.leaves_one)))
            (omega arith);
      })

  -- from a point to the next one: a comes to the ascent, n leaves the descent
  pub moved_on : (u d n : ℕ) {w a b r s : ℕ} → n ≤ p → Inverse p (u * (d * negative p n)) w → Inverse p a b →
      r ≡ w * b % p → s ≡ r * (p - n) % p → Inverse p (u * a * d) s
  moved_on u d n {w} {a} {b} below old inverse e e' =
      let k = p - n in
      rw (e', e) (record {
        word = mod-lt (w * b % p * k) pos;
        leaves_one =
            by
            (≈-plus
            (≈-plus (≈-times (u * a * d) (≈-reduced p (w * b % p * k))) (≈-times (u * a * d * k) (≈-reduced p (w * b))))
            (≈-plus (≈-times (u * a * d * w * b) (rest_of n below)) (≈-plus (≈-times (a * b) old.leaves_one) inverse.leaves_one)))
            (omega arith);
      })

pub same-inverse : {p a b w : ℕ} → a ≈⟨ p ⟩ b → Inverse p b w → Inverse p a w
same-inverse {p} {w = w} h k = record { word = k.word; leaves_one = ≈_trans (≈-product h (≈_refl p w)) k.leaves_one }
