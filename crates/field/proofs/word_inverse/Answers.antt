-- One turn leaves the remainder; it is not 0, since p is prime.
use mathlib.Core.Path.{◌≡◌, ap}
use Prim.Native.Nat.{ℕ, ◌+◌, ◌*◌, ◌-◌, ◌/◌, ◌%◌}
use native.Mathlib.Nat.{mod-add-div', div-le_self}
use native.Mathlib.Omega.{arith}
use borrow.Author.Rules.{rules}
use Rattle.algebra.specs.Congruence.{◌≈⟨◌⟩◌}
use Rattle.algebra.proofs.Congruence.{≈_sym, ≈-plus, ≈-times, ≈-whole, ≈-reduced, by}
use Rattle.algebra.proofs.Inverse.{leaves}
use Rattle.field.proofs.PrimeField.{p_prime}
use Rattle.field.proofs.word_inverse.Goals as goal

-- one turn: n is q rest + r, so the multiple n − q of rest leaves r
turn : {n rest : ℕ} (a f : ℕ) → a * f ≈⟨ n ⟩ rest → a * (f * (n - n / rest) % n) ≈⟨ n ⟩ n % rest
turn {n} {rest} a f h =
    let m = n - n / rest in
    let whole : m + n / rest ≡ n = omega (arith, div-le_self n rest) in
    by (≈-plus (≈-plus (≈-times a (≈-reduced n (f * m))) (≈-times m h)) (≈-plus (≈-whole n 0 rest) (≈_sym (≈-whole n 0 1))))
    (omega (arith, mod-add-div' n rest, ap (λ (x : ℕ). x * rest) whole))

pub loop-rest-preserved : goal.loop-rest-preserved
loop-rest-preserved c =
    let now = c.loop-rest in
    record {
      positive = leaves p_prime now.rest (search rules) (search rules);
      below = omega arith;
      word = search rules;
      leaves_rest = rw c.times-factor.ensures (turn _ now.factor now.invariant.leaves_rest);
    }
