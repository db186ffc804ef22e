-- A word that is none is the first; past the last every word is one.
use borrow.Author.Rules.{rules}
use native.Mathlib.Omega.{arith}
use Rattle.field.proofs.PrimeField.{field_prime}
use Rattle.assignment.proofs.Accepted.{none_faulty, first_faulty}
use Rattle.assignment.proofs.field_words.Goals as goal

pub returns-clause-verdict : goal.returns-clause-verdict
returns-clause-verdict c number first l = none_faulty field_prime number first _ l (λ k inside. c.loop-i.invariant k (search rules))

pub returns-then-word-gt-MINUS_ONE-clause-verdict : goal.returns-then-word-gt-MINUS_ONE-clause-verdict
returns-then-word-gt-MINUS_ONE-clause-verdict c number first l = first_faulty field_prime number first _ _ l (search rules) (omega (arith, c.if-word-gt-MINUS_ONE.true)) c.loop-i.invariant
