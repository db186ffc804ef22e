-- The matrix's section is well formed, and the sums over all its entries are those over the columns.
use mathlib.Core.Path.{◌∙◌, ap}
use Rattle.slices.specs.Zeros.{zeros}
use Rattle.circuit.specs.Totals.{table}
use Rattle.rows.proofs.Sums.{all-entries}
use Rattle.circuit.proofs.Tables.{table-zero}
use Rattle.rows.proofs.row_sums.Goals as goal

pub add_entries-requires : goal.add_entries-requires
unfolding zeros
add_entries-requires c =
    let asked = c.requires.0 in
    let begins = c.section_start-start.ensures in
    record {
      formed = (asked.circuit, rw begins (asked.circuit.matrices c.args.matrix asked.of_three));
      span = (c.requires.1, c.clear.ensures ∙ table-zero _ ∙ ap (table (λ i. 0)) asked.size);
    }

pub returns : goal.returns
returns c =
    let begins = c.section_start-start.ensures in
    rw begins at c.add_entries.ensures
    ∙ all-entries c.requires.0.circuit _ _ _ _ c.requires.0.of_three c.requires.1.ascending
