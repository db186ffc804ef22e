-- Congruence modulo p, and what an inverse is.
-- RULES 1: each inverse times its number leaves 1 modulo p; minus one is p − 1.
use Rattle.std.specs.Prelude.{◌≡◌, ℕ, ◌*◌, ◌-◌, ◌%◌, ◌<◌}

infix 50 ◌≈⟨◌⟩◌
-- a and b leave the same remainder modulo p
pub record ◌≈⟨◌⟩◌ (a p b : ℕ) : Type 0 where
  pub same : a % p ≡ b % p

-- minus a, by minus one
abbrev pub negative : ℕ → ℕ → ℕ
negative p a = (p - 1) * a

-- the word b is the inverse of a
pub record Inverse (p a b : ℕ) : Type 0 where
  pub word : b < p
  pub leaves_one : a * b ≈⟨ p ⟩ 1
