-- Some columns of a matrix, one after the other: what writing them asks of the words lent, and what it leaves there.
-- RULES 4: column j in words (j − 1)·m up to j·m − 1, for the columns from number `first` on.
use Rattle.std.specs.Prelude.{◌≡◌, List, ℕ, ◌+◌, ◌*◌, ◌≤◌, ◌<◌, length, take, drop}
use Rattle.circuit.specs.Limits.{most_columns}
use Rattle.circuit.specs.Circuit.{rows}
use Rattle.circuit.specs.WellFormed.{Formed}
use Rattle.qap.specs.Polynomials.{Column}
use Rattle.qap.specs.Setting.{row_setting}

-- matrix 0, 1 or 2, columns that a circuit can have, and m words for each
pub record ColumnsRoom (p : ℕ) (c : List ℕ) (matrix first count : ℕ) (f : List ℕ) : Type 0 where
  pub circuit : Formed p c
  pub of_three : matrix < 3
  pub few : first + count ≤ most_columns + 1
  pub size : length f ≡ count * rows c

-- place number t has column first + t
pub record ColumnsFrom (p : ℕ) (c : List ℕ) (matrix first count : ℕ) (f : List ℕ) : Type 0 where
  pub size : length f ≡ count * rows c
  pub column : (t : ℕ) → t < count → Column (row_setting p) c matrix (first + t) (take (rows c) (drop (t * rows c) f))
