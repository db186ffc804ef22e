-- A reader's verdict that accepts is 0 at place 0: every check of it gives a number above 0.
-- RULES 6.
use mathlib.Core.List.{List}
use Prim.Native.Nat.{ℕ}
use lib.Dec.{lit<}
use Rattle.outcome.proofs.Verdict.{Proper, proper-require, proper-and_then, proper-first}
use Rattle.circuit.specs.Circuit.{entries, section}
use Rattle.circuit.specs.Reader.{ranges_verdict, entry_verdict, section_verdict, counts_verdict, prefix_verdict, circuit_verdict}

ruleset proper = (proper-require, proper-and_then, lit<, tt)

module _ (p : ℕ) where
  pub proper-entry : (c : List ℕ) (s e : ℕ) → Proper (entry_verdict p c s e)
  unfolding entry_verdict ranges_verdict
  proper-entry c s e = search proper depth 16

  pub proper-section : (c : List ℕ) (s : ℕ) → Proper (section_verdict p c s)
  unfolding section_verdict
  proper-section c s =
      let each = proper-first (entry_verdict p c s) (entries c s) (λ e l. proper-entry c s e) in search proper depth 16

  pub proper_prefix : (c : List ℕ) → Proper (prefix_verdict p c)
  unfolding prefix_verdict counts_verdict
  proper_prefix c =
      let each = proper-first (λ matrix. section_verdict p c (section c matrix)) 3 (λ k l. proper-section c (section c k)) in
      search proper depth 16

  pub proper-circuit : (c : List ℕ) → Proper (circuit_verdict p c)
  unfolding circuit_verdict
  proper-circuit c = let first = proper_prefix c in search proper depth 16
