-- A setting: the prime of the field, and the points for a number of rows. Every polynomial, answer, refusal and demand is stated
-- over any sound setting; the calls' contracts cite the one that there is. RULES 1, RULES 4.
use Rattle.std.specs.Prelude.{List, ℕ, ◌≤◌, length}
use Rattle.outcome.specs.Verdict.{Within}
use Rattle.algebra.specs.Prime.{FieldPrime}
use Rattle.algebra.specs.Polynomial.{Words}
use Rattle.algebra.specs.Points.{Distinct, row_points}
use Rattle.field.specs.Field.{p}
use Rattle.circuit.specs.Circuit.{rows}

pub record Setting : Type 0 where
  pub p : ℕ
  pub points : ℕ → List ℕ

-- for 1 to 256 rows the points are distinct field words, at least as many as the rows and at most 256
pub record SoundPoints (p m : ℕ) (xs : List ℕ) : Type 0 where
  pub words : Words p xs
  pub distinct : Distinct p xs
  pub enough : m ≤ length xs
  pub few : length xs ≤ 256

pub record Sound (S : Setting) : Type 0 where
  pub field : FieldPrime S.p
  pub sound_points : (m : ℕ) → Within 1 m 256 → SoundPoints S.p m (S.points m)

-- the points of a circuit's rows: row i has point number i, counted from 1
abbrev pub points_of : Setting → List ℕ → List ℕ
points_of S c = S.points (rows c)

-- row i at point i, over a prime
abbrev pub row_setting : ℕ → Setting
row_setting p = record { p = p; points = row_points }

-- the setting of the calls: the prime 2013265921
abbrev pub standard : Setting
standard = row_setting p
