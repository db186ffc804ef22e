-- What a prime number is, and what the prime of a field has to be.
-- RULES 1: p is a prime; that it is prime is proved.
use Rattle.std.specs.Prelude.{◌≡◌, ℕ, ◌*◌, ◌<◌}

-- above 1, and no product of two numbers above 1
pub record Prime (p : ℕ) : Type 0 where
  pub above_one : 1 < p
  pub no_product : (a b : ℕ) → 1 < a → 1 < b → a * b ≡ p → ⊥

-- a prime whose words fit 32 bits with room for a sum of two, and above every number of points or of coefficients
pub record FieldPrime (p : ℕ) : Type 0 where
  pub prime : Prime p
  pub above : 512 < p
  pub below : p < 2147483648
