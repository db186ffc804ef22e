-- Places are small: a verdict gives no place above a bound that each of its checks keeps to. Every layer shows that of its own verdicts.
-- RULES 6.
use mathlib.Core.Bool.{Bool, true, false}
use mathlib.Core.Logic.{⊎_elim}
use Prim.Native.Nat.{ℕ, zero, suc, ◌≤◌, ◌<◌}
use native.Mathlib.Omega.{arith}
use Rattle.outcome.specs.declared.Outcome.{Outcome}
use Rattle.outcome.specs.Verdict.{Accepted, Refused, require, ◌and_then◌, first_fault}
use Rattle.outcome.proofs.Verdict.{accepted_or_refused, goes_on, stops}

pub record Near (bound : ℕ) (o : Outcome) : Type 0 where
  pub near : o.place ≤ bound

module _ {bound : ℕ} where
  pub near-require : (t : Bool) (number place : ℕ) → place ≤ bound → Near bound (require t number place)
  unfolding require
  near-require true number place l = record { near = omega arith }
  near-require false number place l = record { near = l }

  -- what comes second may go by what the first accepted
  pub near_then : {a b : Outcome} → Near bound a → (Accepted a → Near bound b) → Near bound (a and_then b)
  near_then {a} {b} ha hb = ⊎_elim
      (λ (h : Accepted a). rw (goes_on b h) (hb h))
      (λ (r : Refused a). rw (stops b r) ha)
      (accepted_or_refused a)

  pub near_next : {a b : Outcome} → Near bound a → Near bound b → Near bound (a and_then b)
  near_next ha hb = near_then ha (λ h. hb)

  pub near_first : (f : ℕ → Outcome) (k : ℕ) → ((i : ℕ) → i < k → Near bound (f i)) → Near bound (first_fault f k)
  unfolding first_fault
  near_first f zero h = record { near = omega arith }
  near_first f (suc k) h = near_then (near_first f k (λ i l. h i (omega arith))) (λ a. h k (omega arith))

pub ruleset near = (near-require, near_next)
