-- A loop that stops at the first fault: its invariant, and what it has where it begins, goes on, stops and ends.
-- RULES 6.
use mathlib.Core.Path.{◌≡◌, sym, ◌∙◌}
use Prim.Native.Nat.{ℕ, ◌+◌, ◌≤◌, ◌<◌}
use native.Mathlib.Nat.{le_antisymm}
use native.Mathlib.Numerals.{add-one}
use native.Mathlib.Omega.{arith}
use Rattle.outcome.specs.declared.Outcome.{Outcome}
use Rattle.outcome.specs.Verdict.{fine, Accepted, Refused, first_fault}
use Rattle.outcome.proofs.Verdict.{accepted-fine, accepted-both, first-refused, Proper, proper-first}

-- of k places the first i were passed
pub record Passed (f : ℕ → Outcome) (k i : ℕ) : Type 0 where
  pub within : i ≤ k
  pub accepted : Accepted (first_fault f i)

module _ (f : ℕ → Outcome) (k : ℕ) where
  pub begin : Passed f k 0
  unfolding first_fault
  begin = record { within = omega arith; accepted = accepted-fine }

  pub go_on : {i : ℕ} → Passed f k i → i < k → Accepted (f i) → Passed f k (i + 1)
  unfolding first_fault
  go_on {i} passed l here = record { within = omega arith; accepted = rw (add-one i) (accepted-both passed.accepted here) }

  pub stop : {i : ℕ} {o : Outcome} → Passed f k i → i < k → Refused (f i) → o ≡ f i → o ≡ first_fault f k
  stop {i} passed l here found = found ∙ sym (first-refused f i k passed.accepted here l)

  pub end : {i : ℕ} → Passed f k i → k ≤ i → ((j : ℕ) → j < k → Proper (f j)) → fine ≡ first_fault f k
  end passed l proper = sym ((proper-first f k proper).fine_if_accepted (rw (le_antisymm passed.within l) at passed.accepted))
