-- An accepted circuit is formed.
use native.Mathlib.Omega.{arith}
use Rattle.outcome.proofs.Asked.{asked}
use Rattle.circuit.proofs.Formed.{formed_behind}
use Rattle.examples.proofs.assignments.public.Goals as goal

pub public_words_verdict-requires : goal.public_words_verdict-requires
public_words_verdict-requires c = formed_behind _ (grind (arith, asked))
