-- Where the column is left out nothing changes; else its row's word gets the product added.
use mathlib.Core.List.{List}
use mathlib.Core.Logic.{◌⊎◌, ⊎_elim}
use mathlib.Core.Path.{◌≡◌, sym}
use Prim.Native.Nat.{ℕ, suc, ◌+◌, ◌*◌, ◌-◌, ◌%◌, ◌≤◌, ◌<◌}
use native.Mathlib.Omega.{arith}
use borrow.Author.Tests.{le-leb, lt-leb}
use lib.ListN.{length, set}
use Rattle.field.specs.Field.{p}
use Rattle.circuit.specs.Circuit.{rows, word, row_of, column_of, value_of}
use Rattle.assignment.specs.Assignment.{assigned}
use Rattle.assignment.proofs.Assigned.{assigned_order}
use Rattle.outcome.specs.Verdict.{Within}
use Rattle.circuit.proofs.Rows.{row_inside}
use Rattle.rows.specs.Sums.{with_entry}
use borrow.Author.Rules.{rules}
use Rattle.rows.proofs.add_entry.Goals as goal
use Rattle.rows.proofs.add_entry.Goals.{After-assigned_at-value}

module _ (c : List ℕ) (s : ℕ) (a : List ℕ) (from to e : ℕ) (xs : List ℕ) where
  left_out : (column_of c s e ≤ from) ⊎ ((from < column_of c s e) × (to < column_of c s e)) → with_entry p c s a from to e xs ≡ xs
  unfolding with_entry
  left_out h = ⊎_elim
      (λ (low : column_of c s e ≤ from). rw (with_entry, lt-leb (suc from) (column_of c s e) (omega arith)))
      (λ (high : (from < column_of c s e) × (to < column_of c s e)).
      rw (with_entry, le-leb (suc from) (column_of c s e) high.0, lt-leb (column_of c s e) to high.1))
      h

  counted : from < column_of c s e → column_of c s e ≤ to →
      with_entry p c s a from to e xs
      ≡ set xs (row_of c s e - 1) ((word xs (row_of c s e - 1) + assigned c a (column_of c s e) * value_of c s e) % p)
  unfolding with_entry
  counted h k = rw (with_entry, le-leb (suc from) (column_of c s e) h, le-leb (column_of c s e) to k)

pub returns-then-column-from : goal.returns-then-column-from
returns-then-column-from c = sym (left_out _ _ _ _ _ _ _ (rw c.entry_of-entry.ensures.column at c.then-column-from.either))

-- the value's index is inside: its column is at most `to`
inside : (c : After-assigned_at-value) → c.assigned_at-value.result < length c.args.values.now
inside c =
    let column = column_of c.args.circuit.now c.args.start c.args.e in
    let at = rw c.entry_of-entry.ensures.column at c.assigned_at-value.ensures in
    omega (arith, at, assigned_order c.args.circuit.now column c.args.to (search rules), c.requires.span.0.given)

-- and so is the row
row : (c : After-assigned_at-value) →
    Within 1 (row_of c.args.circuit.now c.args.start c.args.e) (rows c.args.circuit.now)
row c = row_inside c.requires.formed.1

pub returns : goal.returns
returns c =
    let entry = c.entry_of-entry.ensures in
    rw (c.add_scaled.ensures, c.assigned_at-value.ensures, entry.row, entry.column, entry.value)
    (sym (counted c.args.circuit.now c.args.start c.args.values.now c.args.from c.args.to c.args.e
    c.args.out.now (search rules) (search rules)))

pub bounds-out-row : goal.bounds-out-row
bounds-out-row c = let here = row (goal.at.bounds-out-row c).After-assigned_at-value in search rules

pub offset_bounds-values-value : goal.offset_bounds-values-value
offset_bounds-values-value c = omega (arith, inside (goal.at.offset_bounds-values-value c).After-assigned_at-value)

pub bounds-values-value : goal.bounds-values-value
bounds-values-value c = inside (goal.at.bounds-values-value c).After-assigned_at-value

pub bounds-out-row-2 : goal.bounds-out-row-2
bounds-out-row-2 c = let here = row (goal.at.bounds-out-row-2 c).After-assigned_at-value in search rules
