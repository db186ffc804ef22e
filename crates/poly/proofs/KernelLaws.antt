-- The laws at the points of m rows, over any field prime, as the callers of the loops want them. RULES 4.
use mathlib.Core.Path.{◌≡◌}
use mathlib.Core.List.{List}
use Prim.Native.Nat.{ℕ, ◌≤◌}
use native.Mathlib.Omega.{arith}
use lib.ListN.{length, get_or}
use Rattle.algebra.specs.Polynomial.{Words}
use Rattle.algebra.specs.Points.{row_points, Through}
use Rattle.algebra.specs.Prime.{FieldPrime}
use Rattle.field.specs.Field.{InverseTable}
use Rattle.poly.specs.Interpolation.{interpolated}
use Rattle.poly.proofs.InterpolationLaws.{interpolated-through, interpolated_unique}

module _ {p : ℕ} (field : FieldPrime p) {t v : List ℕ} (table : InverseTable p t) (few : length v ≤ 256) (words : Words p v) where
  -- what `interpolate` leaves is the list through the values at 1..m, and the only one
  pub interpolate-through : Through p (row_points (length v)) (λ i. get_or v i 0) (interpolated p t 1 v)
  interpolate-through =
      interpolated-through field.prime t (λ i h. table.inverse i (omega (arith, table.entries))) 1 v (omega (arith, table.entries)) words

  pub interpolate_unique : {g : List ℕ} → Through p (row_points (length v)) (λ i. get_or v i 0) g → interpolated p t 1 v ≡ g
  interpolate_unique =
      interpolated_unique field.prime t (λ i h. table.inverse i (omega (arith, table.entries))) 1 v (omega (arith, table.entries))
      (omega (arith, field.above)) words
