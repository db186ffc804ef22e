-- Invariant: the words are the column by the entries passed.
use mathlib.Core.Path.{◌≡◌}
use Rattle.columns.specs.Coefficients.{listed_column}
use Rattle.columns.proofs.coefficients.write_entries.Given as goal

abbrev pub invariant-loop-e : goal.invariant-loop-e
invariant-loop-e l = l.out ≡ listed_column l.circuit l.start l.j l.e
