-- A reader's place is at most the number of its words, or 2 where there are fewer. RULES 6.
use mathlib.Core.List.{List}
use Prim.Native.Nat.{ℕ, ◌≤◌}
use native.Mathlib.Omega.{arith}
use borrow.Author.Tests.{leb-true, ltb-true}
use lib.Dec.{lit<}
use lib.ListN.{length}
use Rattle.outcome.proofs.Verdict.{require-accepted}
use Rattle.outcome.proofs.Near.{Near, near, near-require, near_then, near_first}
use Rattle.circuit.specs.Circuit.{entries, entry_at, section}
use Rattle.circuit.specs.Reader.{ranges_verdict, entry_verdict, section_verdict, counts_verdict, prefix_verdict, circuit_verdict}

module _ (p : ℕ) {bound : ℕ} (c : List ℕ) (few : length c ≤ bound) where
  near-entry : (s e : ℕ) → entry_at s e ≤ bound → Near bound (entry_verdict p c s e)
  unfolding entry_verdict ranges_verdict
  near-entry s e l = search near depth 16

  near-section : (s : ℕ) → Near bound (section_verdict p c s)
  unfolding section_verdict
  near-section s = near_then (near-require _ _ _ few) (λ inside.
      let counted = ltb-true s (length c) (require-accepted _ _ _ (lit< tt) inside) in
      near_then (near-require _ _ _ (omega arith)) (λ small.
      near_then (near-require _ _ _ few) (λ there.
      let room = leb-true _ (length c) (require-accepted _ _ _ (lit< tt) there) in
      near_first (entry_verdict p c s) (entries c s) (λ e l. near-entry s e (omega arith)))))

  module _ (enough : 2 ≤ bound) where
    pub near_prefix : Near bound (prefix_verdict p c)
    unfolding prefix_verdict counts_verdict
    near_prefix =
        let zeroth : 0 ≤ bound = omega arith in
        let first_word : 1 ≤ bound = omega arith in
        let each = near_first (λ matrix. section_verdict p c (section c matrix)) 3 (λ k l. near-section (section c k)) in
        search near depth 16

    pub near-circuit : Near bound (circuit_verdict p c)
    unfolding circuit_verdict
    near-circuit = let begun = near_prefix in search near
