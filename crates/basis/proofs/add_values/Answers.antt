-- A turn adds one value: nothing where it is 0, else its weight times the target divided by X − x.
use mathlib.Core.Path.{◌≡◌, sym, ◌∙◌}
use mathlib.Core.List.{List}
use Prim.Native.Nat.{ℕ, suc, ◌+◌, ◌*◌, ◌%◌, ◌<◌}
use native.Mathlib.Numerals.{add-one}
use native.Mathlib.Omega.{arith}
use lib.ListN.{length, get_or}
use Rattle.algebra.specs.Points.{row_points}
use Rattle.algebra.specs.Polynomial.{divided}
use Rattle.algebra.proofs.Target.{length-target}
use Rattle.algebra.proofs.Consecutive.{length-row_points, row_points_at, distinct-consecutive}
use Rattle.field.specs.Field.{p}
use Rattle.field.proofs.PrimeField.{p_prime}
use Rattle.poly.specs.AddScaled.{scaled}
use Rattle.basis.specs.Column.{Prepared, AddedFirst}
use Rattle.basis.proofs.ColumnLaws.{added-zero, added-column}
use Rattle.basis.proofs.add_values.Goals as goal
use Rattle.basis.proofs.add_values.Goals.{then-here-ne0, else-here-ne0}

-- one value more that is not 0
step : (y z ws : List ℕ) (i : ℕ) {old out new : List ℕ} {d : ℕ} → length y ≡ length old → Prepared p (length old) z ws → i < length y →
    AddedFirst p (row_points (length y)) (λ k. get_or y k 0) i old out → d ≡ get_or y i 0 * get_or ws i 0 % p →
    new ≡ scaled p d (divided (i + 1) z) out → AddedFirst p (row_points (length y)) (λ k. get_or y k 0) (i + 1) old new
step y z ws i size ready inside so_far e n =
    let m = length y in
    let prepared : Prepared p m z ws = rw size ready in
    let point : get_or (row_points m) i 0 ≡ suc i = omega (arith, row_points_at m i inside) in
    let distinct = distinct-consecutive {p = p} 1 m (omega arith) in
    rw (n, e, prepared.is_target, add-one i)
    (rw point at (added-column so_far (omega (arith, length-row_points m)) p_prime distinct prepared.are_weights (sym size ∙ sym (length-row_points m))))

pub bounds-weights-i : goal.bounds-weights-i
bounds-weights-i c =
    omega (arith, c.requires.2.are_weights.size, length-row_points (length c.args.out.now))

pub add_divided-requires : goal.add_divided-requires
add_divided-requires c =
    let points = row_points (length c.args.out.now) in
    rw c.requires.2.is_target (omega (arith, length-target p points, length-row_points (length c.args.out.now)))

pub loop-i-preserved : goal.loop-i-preserved
loop-i-preserved c =
    let args = c.args in
    let now = c.loop-i in
    elim c.if-here-ne0.branch [
      | then-here-ne0 w ↦
          rw w.out-is
          (step args.y.now args.z.now args.weights.now now.i c.requires.0 c.requires.2 (omega arith) now.invariant w.times.ensures w.add_divided.ensures)
      | else-here-ne0 w ↦
          rw (w.out-is, add-one now.i) (added-zero now.invariant (omega (arith, length-row_points (length args.y.now))) w.if-here-ne0.false)
    ]
