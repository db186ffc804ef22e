-- The place of 6 is 0, that of 7 and of 12 an index of the words. RULES 6.
use mathlib.Core.List.{List}
use Prim.Native.Nat.{ℕ, ◌+◌, ◌≤◌}
use native.Mathlib.Omega.{arith}
use lib.ListN.{length}
use Rattle.outcome.proofs.Near.{Near, near, near-require, near_then, near_first}
use Rattle.assignment.specs.Assignment.{words_verdict, values_verdict, assignment_verdict, public_verdict}
use Rattle.assignment.proofs.Accepted.{each}

module _ (p : ℕ) {bound : ℕ} where
  pub near-words : (number from : ℕ) (a : List ℕ) → from + length a ≤ bound → Near bound (words_verdict p number from a)
  unfolding words_verdict
  near-words number from a l =
      near_first (each p number from a) (length a) (λ i inside. near-require _ number (from + i) (omega arith))

  module _ (a : List ℕ) (few : length a ≤ bound) (some : 1 ≤ bound) where
    near-values : Near bound (values_verdict p a)
    unfolding values_verdict
    near-values = near_then (near-require _ _ _ some) (λ one. near-words 7 0 a (omega arith))

    pub near-assignment : (c : List ℕ) → Near bound (assignment_verdict p c a)
    unfolding assignment_verdict
    near-assignment c =
        let zeroth : 0 ≤ bound = omega arith in
        let values = near-values in
        search near depth 16

    pub near-public : (c : List ℕ) → Near bound (public_verdict p c a)
    unfolding public_verdict
    near-public c =
        let zeroth : 0 ≤ bound = omega arith in
        let values = near-values in
        search near depth 16
