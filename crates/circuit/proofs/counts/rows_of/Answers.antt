-- Today every row is listed, so the count is the first word.
use borrow.Author.Rules.{rules}
use Rattle.circuit.specs.Circuit.{rows}
use Rattle.circuit.proofs.counts.rows_of.Goals as goal

-- src/counts.rt:14:1
pub returns : goal.returns
unfolding rows
returns c = search rules
