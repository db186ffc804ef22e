-- Values at the point s of a part of a matrix, the sum over the columns after `from` up to `to`, and of three of them with blinders;
-- and what the functions that compute them give where the words lent to them are the basis values at s.
-- RULES 5: private parts in the answers, public ones in their check; over all columns A'(s), B'(s), C'(s).
use Rattle.std.specs.Prelude.{◌≡◌, List, ℕ, ◌+◌, ◌*◌, ◌%◌, ◌<◌, length}
use Rattle.algebra.specs.Congruence.{◌≈⟨◌⟩◌}
use Rattle.algebra.specs.Polynomial.{value}
use Rattle.algebra.specs.Basis.{BasisValues}
use Rattle.basis.specs.BasisAt.{BasisAt}
use Rattle.circuit.specs.Circuit.{rows, publics, columns}
use Rattle.circuit.specs.WellFormed.{Formed}
use Rattle.rows.specs.Sums.{Span, WholeSums}
use Rattle.qap.specs.declared.Blinders.{Blinders}
use Rattle.qap.specs.Polynomials.{Part, target_of, blinder_a, blinder_b, blinder_c}
use Rattle.qap.specs.Setting.{row_setting, points_of}
use Rattle.evaluation.specs.declared.ThreeValues.{ThreeValues}

-- the value at s of every list that is the part
abbrev pub PartAt : ℕ → List ℕ → List ℕ → ℕ → ℕ → ℕ → ℕ → ℕ → Type 0
PartAt p c a matrix from to s r = (f : List ℕ) → Part (row_setting p) c a matrix from to f → r ≡ value f s % p

-- the same over the columns after `from`, with the blinder's value times the target's
abbrev pub BlindedAt : ℕ → List ℕ → List ℕ → ℕ → ℕ → List ℕ → ℕ → ℕ → Type 0
BlindedAt p c a matrix from d s r = (f : List ℕ) → Part (row_setting p) c a matrix from (columns c) f → r ≡ (value f s + value d s * value (target_of (row_setting p) c) s) % p

-- of A, B and C
pub record ThreeAt (p : ℕ) (c a : List ℕ) (from : ℕ) (d : Blinders) (s : ℕ) (r : ThreeValues) : Type 0 where
  pub first : BlindedAt p c a 0 from (blinder_a d) s r.first
  pub second : BlindedAt p c a 1 from (blinder_b d) s r.second
  pub third : BlindedAt p c a 2 from (blinder_c d) s r.third

-- what `part_value` is given: the columns and their values are there, and a basis value for each row
pub record PartGiven (p : ℕ) (c a : List ℕ) (matrix from to : ℕ) (basis : List ℕ) : Type 0 where
  pub circuit : Formed p c
  pub of_three : matrix < 3
  pub span : Span c a from to
  pub size : length basis ≡ rows c

pub record PartValue (p : ℕ) (c a : List ℕ) (matrix from to : ℕ) (basis : List ℕ) (r : ℕ) : Type 0 where
  pub at : (s : ℕ) → BasisValues p (points_of (row_setting p) c) s basis → PartAt p c a matrix from to s r

-- three values, each with its blinder's multiple of z added
pub record WithBlinders (p : ℕ) (v : ThreeValues) (d : Blinders) (z : ℕ) (r : ThreeValues) : Type 0 where
  pub first : r.first ≡ (v.first + d.first * z) % p
  pub second : r.second ≡ (v.second + d.second * z) % p
  pub third : r.third ≡ (v.third + d.third * z) % p

-- over the private columns; z is the target's value
pub record PrivateParts (p : ℕ) (c a : List ℕ) (d : Blinders) (z : ℕ) (basis : List ℕ) (r : ThreeValues) : Type 0 where
  pub at : (s : ℕ) → BasisAt p (rows c) s basis z → ThreeAt p c a (publics c) d s r

-- over all columns, for every circuit and assignment whose row sums the three lists are
pub record WholeValues (p : ℕ) (sums-a sums-b sums-c : List ℕ) (d : Blinders) (z : ℕ) (basis : List ℕ) (r : ThreeValues) : Type 0 where
  pub at : (c a : List ℕ) (s : ℕ) → Formed p c → WholeSums p c a sums-a sums-b sums-c → BasisAt p (rows c) s basis z → ThreeAt p c a 0 d s r

-- the word that is (u v − t) / z
pub record QuotientValue (p : ℕ) (three : ThreeValues) (z r : ℕ) : Type 0 where
  pub word : r < p
  pub divides : three.first * three.second ≈⟨ p ⟩ three.third + z * r
