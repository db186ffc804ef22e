-- Row sums in front of a word of room: with it they make A' (RULES 4).
use mathlib.Core.Path.{◌≡◌, sym, ◌∙◌, ap}
use mathlib.Core.List.{List, ◌++◌}
use Prim.Native.Nat.{ℕ, suc, ◌+◌, ◌<◌}
use native.Mathlib.Omega.{arith}
use lib.ListN.{length, get_or, take, drop, length-append, length-drop, get_or-append}
use lib.Seq.{take_at}
use Rattle.algebra.specs.Polynomial.{Words}
use Rattle.algebra.specs.Points.{row_points}
use Rattle.algebra.proofs.Congruence.{≈-reduced}
use Rattle.algebra.proofs.Consecutive.{length-row_points}
use Rattle.algebra.specs.Prime.{FieldPrime}
use Rattle.circuit.specs.Circuit.{rows, columns}
use Rattle.rows.specs.Rows.{row_sums, whole_sum}
use Rattle.rows.proofs.Sums.{length-sums, sum_at, sums-words}
use Rattle.dividend.specs.Blinded.{BlindedThrough}
use Rattle.dividend.specs.Dividend.{BlindedWhole}
use Rattle.dividend.proofs.QuotientLaws.{blinded-alike}

module _ {p : ℕ} (field : FieldPrime p) where
  module _ (c a : List ℕ) (matrix m : ℕ) (out sums : List ℕ) (count : m ≡ rows c) (room : length out ≡ m + 1)
      (made : sums ≡ row_sums p c a matrix 0 (columns c)) where
    sums-count : length sums ≡ m
    sums-count = ap length made ∙ length-sums p c a matrix 0 (columns c) ∙ sym count

    pub whole-size : length (sums ++ drop m out) ≡ m + 1
    whole-size = rw (length-append, length-drop) (omega (arith, sums-count))

    pub whole_words : Words p (take m (sums ++ drop m out))
    whole_words = rw (take_at sums (drop m out) m sums-count, made) (sums-words p c a matrix 0 (columns c) field)

    pub whole-blinded : {d g : List ℕ} → BlindedThrough p (row_points m) (λ i. get_or (sums ++ drop m out) i 0) d g → BlindedWhole p c a matrix d g
    whole-blinded b = blinded-alike field
        (λ i l.
        let below : i < rows c = omega (arith, length-row_points (rows c)) in
        rw (get_or-append sums (drop (rows c) out) 0 i (omega (arith, sums-count)), made, sum_at p c a matrix 0 (columns c) i below)
        (≈-reduced p (whole_sum c a matrix (suc i)))) (rw count at b)
