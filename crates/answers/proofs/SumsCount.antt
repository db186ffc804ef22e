-- How many row sums there are, as `grind` takes it. RULES 5.
use mathlib.Core.Path.{◌≡◌}
use mathlib.Core.List.{List}
use Prim.Native.Nat.{ℕ}
use lib.ListN.{length}
use Rattle.circuit.specs.Circuit.{rows, columns}
use Rattle.rows.specs.Rows.{row_sums}
use Rattle.rows.proofs.Sums.{length-sums}
use Rattle.field.specs.Field.{p}

pub sums_count : (c a : List ℕ) (matrix : ℕ) → length (row_sums p c a matrix 0 (columns c)) ≡ rows c
sums_count c a matrix = length-sums p c a matrix 0 (columns c)
