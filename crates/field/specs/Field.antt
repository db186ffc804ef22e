-- The field's prime p, and what the contracts of its inverses say.
-- RULES 1: p, and the table of the inverses of 1 to 256.
use Rattle.std.specs.Prelude.{◌≡◌, List, ℕ, suc, ◌<◌, length, get_or}
use Rattle.algebra.specs.Congruence.{◌≈⟨◌⟩◌, Inverse}

-- 15 · 2^27 + 1
abbrev pub p : ℕ
p = 2013265921

-- r answers for the number a: its inverse, or 0 where a is 0 modulo p and has none
pub record InverseOrZero (p a r : ℕ) : Type 0 where
  pub of_zero : a ≈⟨ p ⟩ 0 → r ≡ 0
  pub of_nonzero : (a ≈⟨ p ⟩ 0 → ⊥) → Inverse p a r

-- the entries are the inverses of 1 to 256, in that order
pub record InverseTable (p : ℕ) (t : List ℕ) : Type 0 where
  pub entries : length t ≡ 256
  pub inverse : (i : ℕ) → i < 256 → Inverse p (suc i) (get_or t i 0)
