-- Invariant: the columns passed stand in their places.
use Rattle.field.specs.Field.{p}
use Rattle.columns.proofs.ColumnLaws.{WrittenUpTo}
use Rattle.columns.proofs.matrix.write_columns.Given as goal

abbrev pub invariant-loop-t : goal.invariant-loop-t
invariant-loop-t l = WrittenUpTo p l.circuit l.matrix l.first l.count l.out l.t
