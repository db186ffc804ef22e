-- Number and place tell one refusal from another: results that say the same are the same.
-- RULES 6.
use mathlib.Core.Path.{◌≡◌}
use native.Mathlib.Omega.{arith}
use Rattle.outcome.specs.declared.Refusal.{Refusal}
use Rattle.outcome.specs.declared.Refusal.TheVariants.{Extent, Limit, Position, Value, Order, Shape, Assigned, Length, Column, Row, Point, Given, Equality, Bytes}
use Rattle.outcome.specs.Verdict.{told}

pub same_refusal : (r s : Refusal) → told r ≡ told s → r ≡ s
same_refusal r s h = grind arith
