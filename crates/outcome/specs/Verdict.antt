-- Number and place, and how a refusal is put together: one check, one check after another, the first fault of many.
-- RULES 6: its table is read as checks, its order as `and_then` and `first_fault`.
use Rattle.std.specs.Prelude.{Result, Ok, Err, ⊤, Bool, true, false, ◌&&◌, List, ◌≡◌, ℕ, zero, suc, ◌<◌, ◌≤◌, leb}
use Rattle.outcome.specs.declared.Outcome.{Outcome}
use Rattle.outcome.specs.declared.Refusal.{Refusal}
use Rattle.outcome.specs.declared.Refusal.TheVariants.{Extent, Limit, Position, Value, Order, Shape, Assigned, Length, Column, Row, Point, Given, Equality, Bytes}

abbrev pub outcome : ℕ → ℕ → Outcome
outcome number place = record { number = number; place = place }

-- done, or accepted
abbrev pub fine : Outcome
fine = outcome 0 0

pub record Accepted (o : Outcome) : Type 0 where
  pub is_zero : o.number ≡ 0

pub record Refused (o : Outcome) : Type 0 where
  pub is_positive : 0 < o.number

-- the number and place are given exactly where the test fails
unfoldable pub require : Bool → ℕ → ℕ → Outcome
require true number place = fine
require false number place = outcome number place

-- low to high, both included
abbrev pub within : ℕ → ℕ → ℕ → Bool
within low x high = leb low x && leb x high

pub record Within (low x high : ℕ) : Type 0 where
  pub at_least : low ≤ x
  pub at_most : x ≤ high

-- RULES 6: the number and place of each refusal
abbrev pub told : Refusal → Outcome
told (Extent place) = outcome 1 place
told (Limit place) = outcome 2 place
told (Position place) = outcome 3 place
told (Value place) = outcome 4 place
told (Order place) = outcome 5 place
told Shape = outcome 6 0
told (Assigned place) = outcome 7 place
told (Length place) = outcome 8 place
told Column = outcome 9 0
told (Row place) = outcome 10 place
told Point = outcome 11 0
told (Given place) = outcome 12 place
told Equality = outcome 13 0
told Bytes = outcome 14 0

-- what a result says: done is number 0 at place 0
abbrev pub outcome_of : {T : Type 0} → Result T Refusal → Outcome
outcome_of (Ok x) = fine
outcome_of (Err r) = told r

-- done where the test passes, else the refusal
abbrev pub checked : {E : Type 0} → Bool → E → Result ⊤ E
checked true r = Ok tt
checked false r = Err r

infixr 20 ◌and_then◌
-- a, where it is a refusal; else b
unfoldable pub ◌and_then◌ : Outcome → Outcome → Outcome
a and_then b = elim a.number [ zero ↦ b | suc k ↦ a ]

-- the first refusal among f 0, f 1, .., f (k − 1)
unfoldable pub first_fault : (ℕ → Outcome) → ℕ → Outcome
first_fault f zero = fine
first_fault f (suc k) = first_fault f k and_then f k

-- a lent list in the end: the new words where all was fine, else the old ones
unfoldable pub when_accepted : Outcome → List ℕ → List ℕ → List ℕ
when_accepted o new old = elim o.number [ zero ↦ new | suc k ↦ old ]
