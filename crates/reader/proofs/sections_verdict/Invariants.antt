-- Outer invariant: the sections passed are fine, and `start` is where the next one begins. Inner: so are the entries passed.
-- A fault met is the verdict of its section, and so the first of all.
use mathlib.Core.List.{List}
use mathlib.Core.Path.{◌≡◌}
use Prim.Native.Nat.{ℕ, ◌+◌, ◌*◌, ◌≤◌, ◌-◌}
use Rattle.outcome.specs.declared.Outcome.{Outcome}
use Rattle.outcome.proofs.Scan.{Passed}
use Rattle.circuit.specs.Limits.{most_entries}
use Rattle.circuit.specs.Circuit.{section, entries}
use Rattle.circuit.specs.Reader.{entry_verdict, section_verdict}
use Rattle.field.specs.Field.{p}
use Rattle.reader.proofs.sections_verdict.Given as goal

-- the verdicts of the sections
abbrev pub each : List ℕ → ℕ → Outcome
each c matrix = section_verdict p c (section c matrix)

pub record Entries (c : List ℕ) (start e : ℕ) : Type 0 where
  pub passed : Passed (entry_verdict p c start) (entries c start) e

pub record Sections (c : List ℕ) (matrix start : ℕ) : Type 0 where
  pub passed : Passed (each c) 3 matrix
  pub begins : start ≡ section c matrix
  pub small : start ≤ 3 + (1 + 3 * most_entries) * matrix

abbrev pub invariant-loop-e : goal.invariant-loop-e
invariant-loop-e l = Entries l.words l.start l.e

abbrev pub invariant-loop-matrix : goal.invariant-loop-matrix
invariant-loop-matrix l = Sections l.words l.matrix l.start
