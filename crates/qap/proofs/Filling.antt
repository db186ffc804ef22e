-- How a call meets its contract: refused, nothing was written; done, the words are right. RULES 6.
use mathlib.Core.Path.{◌≡◌, refl}
use mathlib.Core.List.{List}
use Prim.Native.Nat.{ℕ}
use native.Mathlib.Nat.{pos_of_ne-zero}
use Rattle.outcome.specs.declared.Outcome.{Outcome}
use Rattle.outcome.specs.Verdict.{Accepted, Refused}
use Rattle.outcome.proofs.Verdict.{not_both}
use Rattle.qap.specs.Calls.{Filled}

module _ {verdict o : Outcome} (Right : List ℕ → Type 0) (e : o ≡ verdict) where
  pub filled-refused : (old : List ℕ) → (o.number ≡ 0 → ⊥) → Filled verdict Right old old o
  filled-refused old h =
      let refused : Refused verdict = rw (← e) (record { is_positive = pos_of_ne-zero h }) in
      record { number_and_place = e; done = λ a. absurd (not_both a refused); kept = λ r. refl }

  pub filled-done : (old new : List ℕ) → o.number ≡ 0 → (Accepted verdict → Right new) → Filled verdict Right old new o
  filled-done old new h right =
      let accepted : Accepted verdict = rw (← e) (record { is_zero = h }) in
      record { number_and_place = e; done = right; kept = λ r. absurd (not_both accepted r) }
