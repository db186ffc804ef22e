-- The place of 10 is a listed row. RULES 6.
use mathlib.Core.List.{List}
use Prim.Native.Nat.{ℕ, suc, ◌≤◌}
use native.Mathlib.Omega.{arith}
use Rattle.outcome.proofs.Near.{Near, near-require, near_first}
use Rattle.circuit.specs.Circuit.{listed_rows}
use Rattle.rows.specs.Rows.{row_verdict, rows_verdict}

pub near-rows : (p : ℕ) {bound : ℕ} (c a : List ℕ) → listed_rows c ≤ bound → Near bound (rows_verdict p c a)
unfolding rows_verdict row_verdict
near-rows p c a few = near_first (λ i. row_verdict p c a (suc i)) (listed_rows c) (λ i l. near-require _ 10 (suc i) (omega arith))
