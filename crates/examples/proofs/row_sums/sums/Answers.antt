-- What passed the verdict is accepted.
use native.Mathlib.Omega.{arith}
use borrow.Author.Rules.{rules}
use Rattle.outcome.proofs.Asked.{asked}
use Rattle.examples.proofs.row_sums.sums.Goals as goal

pub whole-requires : goal.whole-requires
whole-requires c = record { accepted = record { is_zero = grind (arith, asked) }; lengths = c.requires }

pub parts-requires : goal.parts-requires
parts-requires c = (record { is_zero = grind (arith, asked) }, search rules)
