-- The words passed are field words.
use Prim.Native.Nat.{ℕ, ◌-◌, ◌<◌, ◌≤◌}
use Rattle.circuit.specs.Circuit.{word}
use Rattle.field.specs.Field.{p}
use Rattle.assignment.proofs.field_words.Given as goal

abbrev pub invariant-loop-i : goal.invariant-loop-i
invariant-loop-i l = (k : ℕ) → k < l.i → word l.words k ≤ p - 1
