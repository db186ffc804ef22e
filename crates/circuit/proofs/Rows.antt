-- The two row counts of a circuit: every listed row has a point, and there are 1 to 256 rows with points. RULES 2.
use mathlib.Core.List.{List}
use Prim.Native.Nat.{ℕ, ◌≤◌}
use native.Mathlib.Omega.{arith}
use Rattle.outcome.specs.Verdict.{Within}
use Rattle.field.specs.Field.{p as prime}
use Rattle.circuit.specs.Limits.{most_rows}
use Rattle.circuit.specs.Circuit.{listed_rows, rows, row_of}
use Rattle.circuit.specs.WellFormed.{EntryFormed, Formed}

pub listed_rows_lem : (c : List ℕ) → listed_rows c ≤ rows c
unfolding rows
listed_rows_lem c = omega arith

pub row_range : {p : ℕ} {c : List ℕ} → Formed p c → Within 1 (rows c) most_rows
unfolding rows
row_range formed = formed.row_count

-- at the field's prime, as `grind` takes it
pub few : (c : List ℕ) → Formed prime c → (1 ≤ rows c) × (rows c ≤ 256)
few c formed = let range = row_range formed in (range.at_least, range.at_most)

-- an entry's row is one of them
pub row_inside : {p : ℕ} {c : List ℕ} {s e : ℕ} → EntryFormed p c s e → Within 1 (row_of c s e) (rows c)
row_inside {c = c} entry = record { at_least = entry.row.at_least; at_most = omega (arith, entry.row.at_most, listed_rows_lem c) }
