-- The column's coefficients lie in the first m words of the room, and the list through them is the column.
use Prim.Native.Nat.{ℕ}
use mathlib.Core.List.{List}
use mathlib.Core.Path.{◌≡◌, sym, ◌∙◌}
use native.Mathlib.Omega.{arith}
use lib.ListN.{length}
use Rattle.slices.specs.Zeros.{zeros}
use Rattle.slices.proofs.Rooms.{Front, front, back}
use Rattle.field.specs.Field.{p}
use Rattle.circuit.specs.WellFormed.{RowWords}
use Rattle.circuit.proofs.Rows.{row_range}
use Rattle.columns.proofs.ColumnLaws.{through_coefs}
use Rattle.columns.proofs.matrix.write_column.Goals as goal

values-front : {c : List ℕ} {matrix : ℕ} {out room : List ℕ} → RowWords p c matrix out → room ≡ zeros 257 → Front (length out) room
values-front asked room = front _ _ (omega (arith, (row_range asked.circuit).at_most, asked.size)) room

pub column_values-requires : goal.column_values-requires
column_values-requires c = record {
  circuit = c.requires.0.circuit;
  of_three = c.requires.0.of_three;
  size = sym (values-front c.requires.0 c.room-values.ensures).size ∙ c.requires.0.size;
}

pub column_through-requires : goal.column_through-requires
column_through-requires c = (
  sym (back _ (values-front c.requires.0 c.room-values.ensures) c.column_values.auto.out).size,
  rw c.requires.0.size c.requires.1,
)

pub returns : goal.returns
returns c =
    let values = (back _ (values-front c.requires.0 c.room-values.ensures) c.column_values.auto.out).words in
    through_coefs _ _ _ (values ∙ c.column_values.ensures) c.column_through.ensures

pub slice_bounds-values-end : goal.slice_bounds-values-end
slice_bounds-values-end c = (values-front c.requires.0 c.room-values.ensures).fits

pub slice_bounds-column_values-end : goal.slice_bounds-column_values-end
slice_bounds-column_values-end c = (values-front c.requires.0 c.room-values.ensures).size

pub slice_bounds-values-end-2 : goal.slice_bounds-values-end-2
slice_bounds-values-end-2 c = (back _ (values-front c.requires.0 c.room-values.ensures) c.column_values.auto.out).fits

pub slice_bounds-column_through-end : goal.slice_bounds-column_through-end
slice_bounds-column_through-end c = (back _ (values-front c.requires.0 c.room-values.ensures) c.column_values.auto.out).size
