-- Invariant: `start` is where section k begins.
use mathlib.Core.List.{List}
use mathlib.Core.Path.{◌≡◌}
use Prim.Native.Nat.{ℕ, ◌-◌, ◌≤◌}
use Rattle.circuit.specs.Circuit.{section}
use Rattle.reader.proofs.section_start.Given as goal

abbrev pub invariant-loop-k : goal.invariant-loop-k
invariant-loop-k l = l.start ≡ section l.words l.k
