-- Each contract admits one answer; and the sum of values times basis values is the value at s of the list through them.
-- Over any prime, and any distinct points or the points 1..m. RULES 10.
use mathlib.Core.Path.{◌≡◌, sym, ◌∙◌}
use mathlib.Core.List.{List}
use Prim.Native.Nat.{ℕ, ◌*◌, ◌%◌, ◌<◌}
use native.Mathlib.Omega.{arith}
use lib.ListN.{length, get_or}
use lib.Seq.{ext_get_or}
use Rattle.algebra.specs.Prime.{Prime}
use Rattle.algebra.specs.Polynomial.{value}
use Rattle.algebra.specs.Points.{Distinct, Through}
use Rattle.algebra.specs.Basis.{BasisWeights, BasisValues}
use Rattle.algebra.specs.Combination.{total}
use Rattle.algebra.proofs.Inverse.{inverse_unique}
use Rattle.algebra.proofs.Consecutive.{distinct-row_points}
use Rattle.algebra.proofs.Lagrange.{basis_value, basis_unique}
use Rattle.basis.specs.BasisAt.{BasisAt}

module _ {p : ℕ} (prime : Prime p) where
  pub weights_unique : {xs ws vs : List ℕ} → BasisWeights p xs ws → BasisWeights p xs vs → ws ≡ vs
  weights_unique {xs} {ws} {vs} h k = ext_get_or 0 ws vs (h.size ∙ sym k.size) (λ i l.
      let inside = rw h.size at l in
      inverse_unique prime (h.inverse i inside) (k.inverse i inside))

  pub basis_at_unique : {m s z w : ℕ} {bs cs : List ℕ} → m < p → BasisAt p m s bs z → BasisAt p m s cs w → (bs ≡ cs) × (z ≡ w)
  basis_at_unique {m} few h k = (basis_unique prime (distinct-row_points m (omega arith)) h.values k.values, cc)

  -- what `dot` gives for basis values at s
  pub dot-value : {xs : List ℕ} → Distinct p xs → (s : ℕ) (y : List ℕ) {bs f : List ℕ} {r : ℕ} → BasisValues p xs s bs →
      Through p xs (λ i. get_or y i 0) f → length y ≡ length xs → r ≡ total (λ i. get_or y i 0 * get_or bs i 0) (length y) % p → r ≡ value f s % p
  dot-value distinct s y basis through size e = e ∙ rw size (sym (basis_value prime distinct basis through).same)
