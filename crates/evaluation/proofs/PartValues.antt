-- Row sums times basis values are the value at s of the list that the part is (RULES 5).
use mathlib.Core.Path.{◌≡◌, ◌∙◌, ap}
use mathlib.Core.List.{List}
use Prim.Native.Nat.{ℕ, suc, ◌*◌, ◌%◌, ◌<◌}
use native.Mathlib.Omega.{arith}
use lib.ListN.{length, get_or}
use Rattle.algebra.specs.Points.{Through, Distinct}
use Rattle.algebra.specs.Basis.{BasisValues}
use Rattle.algebra.specs.Combination.{total}
use Rattle.algebra.proofs.Congruence.{≈_sym, ≈_trans, ≈-reduced}
use Rattle.algebra.proofs.Consecutive.{length-row_points}
use Rattle.algebra.specs.Prime.{FieldPrime}
use Rattle.basis.proofs.OneAnswer.{dot-value}
use Rattle.circuit.specs.Circuit.{rows}
use Rattle.circuit.specs.WellFormed.{Formed}
use Rattle.rows.specs.Rows.{row_sum, row_sums}
use Rattle.rows.proofs.Sums.{length-sums, sum_at}
use Rattle.qap.specs.Polynomials.{Part}
use Rattle.qap.proofs.Parts.{part-through}
use Rattle.qap.proofs.Settings.{distinct-points}
use Rattle.qap.proofs.Standard.{row-sound}
use Rattle.qap.specs.Setting.{row_setting, points_of}
use Rattle.evaluation.specs.Values.{PartAt}

module _ {p : ℕ} (field : FieldPrime p) where
  module _ (c a : List ℕ) (matrix from to : ℕ) where
    -- the list through the sums is the list through their remainders
    through-sums : {f : List ℕ} → Part (row_setting p) c a matrix from to f → Through p (points_of (row_setting p) c) (λ i. get_or (row_sums p c a matrix from to) i 0) f
    through-sums part =
        let t = part-through part in
        record {
          size = t.size;
          words = t.words;
          takes = λ i l.
              let below : i < rows c = omega (arith, length-row_points (rows c)) in
              rw (sum_at p c a matrix from to i below) (≈_trans (t.takes i l) (≈_sym (≈-reduced p (row_sum c a matrix (suc i) from to))));
        }

    pub part_at : Formed p c → (sums basis : List ℕ) {r : ℕ} → sums ≡ row_sums p c a matrix from to → r ≡ total (λ i. get_or sums i 0 * get_or basis i 0) (length sums) % p →
        (s : ℕ) → BasisValues p (points_of (row_setting p) c) s basis → PartAt p c a matrix from to s r
    part_at formed sums basis made e s at f part =
        let distinct : Distinct p (points_of (row_setting p) c) = distinct-points (row-sound field) formed in
        dot-value field.prime distinct s sums at (rw made (through-sums part))
        (ap length made ∙ length-sums p c a matrix from to ∙ omega (arith, length-row_points (rows c))) e
