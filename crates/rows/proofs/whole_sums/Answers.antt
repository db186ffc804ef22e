-- The columns asked for and their values are there.
use Rattle.rows.proofs.Parts.{span-whole}
use borrow.Author.Rules.{rules}
use Rattle.rows.proofs.whole_sums.Goals as goal

pub row_sums-requires : goal.row_sums-requires
row_sums-requires c = rw c.columns_of-n.ensures (search (rules, span-whole))

pub returns : goal.returns
returns c = rw (← c.columns_of-n.ensures) (search rules)
