-- What `grind` is told of checks, so that it follows code that asks check after check, with `?` behind each, to its verdict.
-- RULES 6.
use mathlib.Core.Bool.{Bool, true, false}
use mathlib.Core.Logic.{◌⊎◌, inl, inr, ⊎_elim}
use mathlib.Core.Path.{◌≡◌, refl}
use Prim.Native.Nat.{ℕ, ◌<◌}
use native.Mathlib.Omega.{arith}
use Rattle.outcome.specs.declared.Outcome.{Outcome}
use Rattle.outcome.specs.declared.Refusal.{Refusal}
use Rattle.outcome.specs.declared.Refusal.TheVariants.{Extent, Limit, Position, Value, Order, Shape, Assigned, Length, Column, Row, Point, Given, Equality, Bytes}
use Rattle.outcome.specs.Verdict.{fine, outcome, told, Accepted, Refused, require, ◌and_then◌}
use Rattle.outcome.proofs.Verdict.{accepted_or_refused, goes_on, stops, passes, fails}

-- no refusal has number 0
pub positive : (r : Refusal) → 0 < (told r).number
positive (Extent place) = omega arith
positive (Limit place) = omega arith
positive (Position place) = omega arith
positive (Value place) = omega arith
positive (Order place) = omega arith
positive Shape = omega arith
positive (Assigned place) = omega arith
positive (Length place) = omega arith
positive Column = omega arith
positive (Row place) = omega arith
positive Point = omega arith
positive (Given place) = omega arith
positive Equality = omega arith
positive Bytes = omega arith

-- a check and the rest behind it
pub first_decides : (a b : Outcome) → ((a and_then b ≡ b) × (a.number ≡ 0)) ⊎ ((a and_then b ≡ a) × (0 < a.number))
first_decides a b = ⊎_elim (λ (h : Accepted a). inl (goes_on b h, h.is_zero)) (λ (r : Refused a). inr (stops b r, r.is_positive)) (accepted_or_refused a)

-- a test
pub test_decides : (t : Bool) (number place : ℕ) →
    ((require t number place ≡ fine) × (t ≡ true)) ⊎ ((require t number place ≡ outcome number place) × (t ≡ false))
test_decides true number place = inl (passes number place refl, refl)
test_decides false number place = inr (fails number place refl, refl)

pub ruleset asked = (positive, first_decides, test_decides)
