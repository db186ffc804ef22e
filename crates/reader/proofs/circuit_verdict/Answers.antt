-- Behind an accepted prefix the words are formed.
use native.Mathlib.Omega.{arith}
use borrow.Author.Rules.{rules}
use Rattle.outcome.proofs.Asked.{asked}
use Rattle.circuit.proofs.Formed.{prefix_formed}
use Rattle.reader.proofs.circuit_verdict.Goals as goal

pub section_start-end-requires : goal.section_start-end-requires
section_start-end-requires c = (prefix_formed _ (record { is_zero = grind (arith, asked) }), search rules)
