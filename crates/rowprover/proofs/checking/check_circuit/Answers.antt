-- A long section is refused unread; else it is read too.
use native.Mathlib.Omega.{arith}
use Rattle.outcome.specs.Verdict.{outcome}
use Rattle.outcome.proofs.Asked.{asked}
use Rattle.rowprover.proofs.LongSection.{long_section}
use Rattle.rowprover.proofs.checking.check_circuit.Goals as goal

pub returns-in_err-circuit_verdict : goal.returns-in_err-circuit_verdict
returns-in_err-circuit_verdict c = long_section _ _ {short = outcome 6 0} _ _ _ c.requires.0 (grind (arith, asked)) (λ e. omega arith) (grind (arith, asked))

pub returns-then-section-gt-MOST_SECTION_BYTES : goal.returns-then-section-gt-MOST_SECTION_BYTES
returns-then-section-gt-MOST_SECTION_BYTES c = long_section _ _ {short = outcome 6 0} _ _ _ c.requires.0 (grind (arith, asked)) (λ e. omega arith) (grind (arith, asked))
