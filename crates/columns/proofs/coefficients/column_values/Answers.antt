-- The matrix's section is well formed, and all its entries make the column.
use mathlib.Core.Path.{◌∙◌, ap}
use native.Mathlib.Omega.{arith}
use lib.ListN.{replicate}
use Rattle.slices.specs.Zeros.{zeros}
use Rattle.columns.proofs.CoefficientLaws.{all-entries}
use Rattle.columns.proofs.coefficients.column_values.Goals as goal

pub section_start-start-requires : goal.section_start-start-requires
section_start-start-requires c = (c.requires.circuit, omega (arith, c.requires.of_three))

pub write_entries-requires : goal.write_entries-requires
unfolding zeros
write_entries-requires c = (
  rw c.section_start-start.ensures (c.requires.circuit.matrices c.args.matrix c.requires.of_three),
  c.clear.ensures ∙ ap (λ n. replicate n 0) c.requires.size,
)

pub returns : goal.returns
returns c = rw c.section_start-start.ensures at c.write_entries.ensures ∙ all-entries _ _ _
