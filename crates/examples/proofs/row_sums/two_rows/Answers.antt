-- The lists of sums have a word for each row.
use borrow.Author.Rules.{rules}
use Rattle.circuit.specs.Circuit.{rows}
use Rattle.examples.proofs.row_sums.two_rows.Goals as goal

pub sums-requires : goal.sums-requires
unfolding rows
sums-requires c = search rules
