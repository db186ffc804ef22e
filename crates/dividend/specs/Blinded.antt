-- A list of words that is A' = A + d Z, for the A that takes given values at the points.
-- RULES 4.
use Rattle.std.specs.Prelude.{◌≡◌, List, ℕ, ◌+◌, length}
use Rattle.algebra.specs.Polynomial.{Words, ◌≋⟨◌⟩◌}
use Rattle.algebra.specs.Points.{Through}
use Rattle.algebra.specs.Blinding.{blinded}

pub record BlindedThrough (p : ℕ) (xs : List ℕ) (y : ℕ → ℕ) (d g : List ℕ) : Type 0 where
  pub plain : List ℕ
  pub through : Through p xs y plain
  pub size : length g ≡ length xs + length d
  pub words : Words p g
  pub same : g ≋⟨ p ⟩ blinded p xs plain d
