use Prim.Native.Nat.{ℕ, ◌+◌, ◌*◌, ◌≤◌, ◌<◌}
use mathlib.Core.List.{List}
use mathlib.Core.Path.{◌≡◌, ◌∙◌}
use native.Mathlib.Nat.{mul-le-mul}
use native.Mathlib.Omega.{arith}
use borrow.Author.Rules.{rules}
use borrow.Rule.Slice.PartMut.{mid_len}
use lib.ListN.{length}
use Rattle.circuit.specs.Circuit.{rows}
use Rattle.circuit.specs.Limits.{most_rows, most_columns}
use Rattle.circuit.proofs.Rows.{row_range}
use Rattle.field.specs.Field.{p}
use Rattle.columns.specs.Columns.{ColumnsRoom}
use Rattle.columns.proofs.ColumnLaws.{WrittenUpTo, place_fits, one_more}
use Rattle.columns.proofs.matrix.write_columns.Goals as goal

pub loop-t-init : goal.loop-t-init
loop-t-init c = record { within = search rules; size = c.requires.columns_room.size; column = λ k l. absurd (omega arith) }

-- the place lent next
inside : {c : List ℕ} {matrix first count m t : ℕ} {out : List ℕ} →
    WrittenUpTo p c matrix first count out t → m ≡ rows c → t < count → t * m + m ≤ length out
inside written same l = rw (same, written.size) (place_fits _ l)

-- it ends within the words of the largest room
room_end : {c : List ℕ} {matrix first count m t : ℕ} {old out : List ℕ} →
    ColumnsRoom p c matrix first count old → WrittenUpTo p c matrix first count out t → m ≡ rows c → t < count →
    t * m + m ≤ (most_columns + 1) * most_rows
room_end {count = count} room written same l =
    let few : count ≤ most_columns + 1 = omega (arith, room.few) in
    omega (arith, inside written same l, written.size, mul-le-mul few (row_range room.circuit).at_most)

pub write_column-requires : goal.write_column-requires
write_column-requires c = (
  record {
    circuit = c.requires.columns_room.circuit;
    of_three = c.requires.columns_room.of_three;
    size = mid_len _ _ _ (inside c.loop-t.invariant c.rows_of-m.ensures c.loop-t-test.true) ∙ omega (arith, c.rows_of-m.ensures);
  },
  c.requires.prepared,
)

pub loop-t-preserved : goal.loop-t-preserved
loop-t-preserved c = rw c.rows_of-m.ensures (one_more c.loop-t.invariant c.loop-t-test.true c.write_column.ensures)

pub overflow_mul-a : goal.overflow_mul-a
overflow_mul-a c = omega (arith, room_end c.requires.columns_room c.loop-t.invariant c.rows_of-m.ensures c.loop-t-test.true)

pub overflow_add-e : goal.overflow_add-e
overflow_add-e c = omega (arith, room_end c.requires.columns_room c.loop-t.invariant c.rows_of-m.ensures c.loop-t-test.true)

pub offset_bounds-out-a : goal.offset_bounds-out-a
offset_bounds-out-a c = omega (arith, room_end c.requires.columns_room c.loop-t.invariant c.rows_of-m.ensures c.loop-t-test.true)
