-- A part of A, B or C is the one list that takes the row sums at the points: so it exists, once, and is found without columns.
-- RULES 4.
use mathlib.Core.Path.{◌≡◌}
use mathlib.Core.List.{List}
use Prim.Native.Nat.{ℕ, suc, ◌+◌, ◌-◌}
use native.Mathlib.Omega.{arith}
use Rattle.algebra.specs.Points.{Through}
use Rattle.algebra.proofs.Interpolation.{interpolation, interpolation_unique}
use Rattle.algebra.proofs.Combination.{through-combination, combination-through}
use Rattle.circuit.specs.Circuit.{coef}
use Rattle.circuit.specs.WellFormed.{Formed}
use Rattle.assignment.specs.Assignment.{assigned}
use Rattle.rows.specs.Rows.{row_sum}
use Rattle.qap.specs.Setting.{Setting, Sound, points_of}
use Rattle.qap.specs.Polynomials.{Column, Part}
use Rattle.qap.proofs.Settings.{prime, distinct-points}

pub part-through : {S : Setting} {c a : List ℕ} {matrix from to : ℕ} {f : List ℕ} → Part S c a matrix from to f →
    Through S.p (points_of S c) (λ i. row_sum c a matrix (suc i) from to) f
unfolding row_sum
part-through {c = c} {a = a} {matrix = matrix} {from = from} {to = to} r =
    combination-through (λ i t. coef c matrix (suc i) (suc (from + t))) (λ t. assigned c a (suc (from + t)))
    (λ t. r.column (suc (from + t))) (to - from) (λ t l. r.is_column (suc (from + t)) (omega arith) (omega arith))
    r.size r.words r.is_sum

module _ {S : Setting} (sound : Sound S) {c : List ℕ} (formed : Formed S.p c) (a : List ℕ) (matrix from to : ℕ) where
  pub through-part : {f : List ℕ} → Through S.p (points_of S c) (λ i. row_sum c a matrix (suc i) from to) f → Part S c a matrix from to f
  unfolding row_sum
  through-part t = record {
    column = λ j. (column j).0;
    is_column = λ j l u. (column j).1;
    size = t.size;
    words = t.words;
    is_sum = through-combination (λ i t. coef c matrix (suc i) (suc (from + t))) (λ t. assigned c a (suc (from + t)))
        (λ t. (column (suc (from + t))).0) (to - from) (λ t l. (column (suc (from + t))).1) (prime sound) (distinct-points sound formed) t;
  }
    where
      column : (j : ℕ) → (f : List ℕ) × Column S c matrix j f
      column j = interpolation (prime sound) (points_of S c) (distinct-points sound formed) (λ i. coef c matrix (suc i) j)

  pub part_exists : (f : List ℕ) × Part S c a matrix from to f
  part_exists =
      let found = interpolation (prime sound) (points_of S c) (distinct-points sound formed) (λ i. row_sum c a matrix (suc i) from to) in
      (found.0, through-part found.1)

pub part_unique : {S : Setting} (sound : Sound S) {c : List ℕ} (formed : Formed S.p c) {a : List ℕ} {matrix from to : ℕ} {f g : List ℕ} →
    Part S c a matrix from to f → Part S c a matrix from to g → f ≡ g
part_unique sound formed r s = interpolation_unique (prime sound) (distinct-points sound formed) (part-through r) (part-through s)
