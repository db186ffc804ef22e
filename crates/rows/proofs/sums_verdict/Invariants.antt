-- Invariant: the rows passed hold. So a row that fails is the lowest.
use mathlib.Core.List.{List}
use Prim.Native.Nat.{ℕ, suc, ◌*◌, ◌%◌}
use lib.Dec.{eqb}
use lib.ListN.{length}
use Rattle.outcome.specs.declared.Outcome.{Outcome}
use Rattle.outcome.specs.Verdict.{require}
use Rattle.outcome.proofs.Scan.{Passed}
use Rattle.field.specs.Field.{p}
use Rattle.circuit.specs.Circuit.{word}
use Rattle.rows.proofs.sums_verdict.Given as goal

abbrev pub each : List ℕ → List ℕ → List ℕ → ℕ → Outcome
each a b c i = require (eqb (word a i * word b i % p) (word c i)) 10 (suc i)

abbrev pub invariant-loop-i : goal.invariant-loop-i
invariant-loop-i l = Passed (each l.a l.b l.c) (length l.a) l.i
