-- Another column's entry changes nothing; one of column j goes to the word of its row.
use Prim.Native.Nat.{ℕ, ◌-◌, ◌<◌}
use mathlib.Core.List.{List}
use mathlib.Core.Path.{◌≡◌, ◌∙◌, ap}
use native.Mathlib.Omega.{arith}
use lib.ListN.{length}
use Rattle.circuit.specs.Circuit.{row_of}
use Rattle.circuit.specs.WellFormed.{EntryFormed}
use Rattle.circuit.proofs.Rows.{row_inside}
use Rattle.columns.specs.Coefficients.{listed_column}
use Rattle.columns.proofs.CoefficientLaws.{length-listed, other-column, own_column}
use Rattle.columns.proofs.coefficients.write_entry.Goals as goal

pub returns-then-entry-j : goal.returns-then-entry-j
returns-then-entry-j c = c.requires.out_value ∙ other-column _ _ _ _ (rw c.entry_of-entry.ensures.column at c.if-entry-j.true)

-- the row's word is there
row : {p start e : ℕ} {c out : List ℕ} (j : ℕ) →
    EntryFormed p c start e → out ≡ listed_column c start j e → row_of c start e - 1 < length out
row {start = start} {e = e} {c = c} j formed same =
    let inside = row_inside formed in
    omega (arith, inside.at_least, inside.at_most, ap length same, length-listed c start j e)

pub offset_bounds-out-row : goal.offset_bounds-out-row
offset_bounds-out-row c = omega (arith, row _ c.requires.entry_formed.0 c.requires.out_value)

pub bounds-out-row : goal.bounds-out-row
bounds-out-row c = rw c.entry_of-entry.ensures.row (row _ c.requires.entry_formed.0 c.requires.out_value)

pub returns : goal.returns
returns c =
    let entry = c.entry_of-entry.ensures in
    rw (c.requires.out_value, entry.row, entry.value)
    (own_column _ _ _ _ (row_inside c.requires.entry_formed.0) (rw entry.column at c.if-entry-j.false))
