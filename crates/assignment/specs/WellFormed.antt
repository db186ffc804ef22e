-- What accepted assignments and public sections have; proofs/Accepted.antt shows that the verdicts are 0 exactly for these.
-- RULES 3.
use Rattle.std.specs.Prelude.{List, ◌≡◌, ℕ, ◌+◌, ◌-◌, length}
use Rattle.algebra.specs.Polynomial.{Words}
use Rattle.circuit.specs.Circuit.{word, publics, columns}

-- field words, the first value 1
pub record ValuesFormed (p : ℕ) (a : List ℕ) : Type 0 where
  pub one : word a 1 ≡ 1
  pub words : Words p a

pub record AssignmentFormed (p : ℕ) (c a : List ℕ) : Type 0 where
  pub size : length a ≡ columns c + 2
  pub public_count : word a 0 ≡ publics c
  pub private_count : word a (publics c + 1) ≡ columns c - publics c
  pub values : ValuesFormed p a

pub record PublicFormed (p : ℕ) (c a : List ℕ) : Type 0 where
  pub size : length a ≡ publics c + 1
  pub public_count : word a 0 ≡ publics c
  pub values : ValuesFormed p a
