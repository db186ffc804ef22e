-- Invariant: the words are the rows' sums over the entries passed.
use mathlib.Core.Path.{◌≡◌}
use Rattle.field.specs.Field.{p}
use Rattle.rows.specs.Sums.{entry_sums}
use Rattle.rows.proofs.add_entries.Given as goal

abbrev pub invariant-loop-e : goal.invariant-loop-e
invariant-loop-e l = l.out ≡ entry_sums p l.circuit l.start l.values l.from l.to l.e
