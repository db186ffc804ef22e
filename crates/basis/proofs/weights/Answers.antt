-- A turn writes the weight of point number i; the next one gains the inverse of i + 1 and loses a factor of the points after.
use mathlib.Core.Path.{◌≡◌}
use Prim.Native.Nat.{ℕ, suc, ◌*◌, ◌-◌, ◌%◌, ◌≤◌, ◌<◌}
use native.Mathlib.Nat.{one-mul}
use native.Mathlib.Numerals.{add-one}
use native.Mathlib.Omega.{arith}
use borrow.Author.Count.{below_none, below_more}
use lib.ListN.{length, get_or, set}
use lib.Seq.{get_or-set_same, get_or-set_other}
use Rattle.algebra.specs.Congruence.{Inverse}
use Rattle.algebra.specs.Points.{row_points}
use Rattle.algebra.specs.Basis.{descent}
use Rattle.algebra.proofs.ConsecutiveBasis.{ascent, apartness-consecutive}
use Rattle.algebra.proofs.Consecutive.{length-row_points}
use Rattle.field.specs.Field.{p}
use Rattle.basis.proofs.WeightLaws.{moved_on, same-inverse}
use Rattle.basis.proofs.weights.Invariants.{WeightAt}
use Rattle.basis.proofs.weights.Goals as goal

next : (m i : ℕ) {w b r s : ℕ} → suc i < m → m ≤ 256 → WeightAt m i w → Inverse p (suc i) b →
    r ≡ w * b % p → s ≡ r * (p - (m - 1 - i)) % p → WeightAt m (suc i) s
unfolding ascent descent
next m i h small old inverse e e' =
    let n = m - suc (suc i) in
    let here : m - suc i ≡ suc n = omega arith in
    let left : m - 1 - i ≡ suc n = omega arith in
    moved_on {p = p} (omega arith) (ascent i) (descent p n) (suc n) (omega arith) (rw here at old) inverse e (rw left at e')

pub loop-i-init : goal.loop-i-init
unfolding ascent
loop-i-init c = (λ _. rw (one-mul (descent p (length c.args.out.now - 1))) c.first_weight-weight.ensures, below_none _)

pub loop-i-preserved : goal.loop-i-preserved
loop-i-preserved c =
    let now = c.loop-i in
    let i = now.i in
    let w = now.weight in
    let m = length c.args.out.now in
    let here : WeightAt m i w = now.invariant.0 (omega arith) in (
      λ l. rw add-one (next m i (omega arith) (omega arith) here (c.requires.2.inverse i (omega arith)) c.times-next.ensures c.times-weight.ensures),
      below_more (λ j. WeightAt m j (get_or (set now.out i w) j 0)) i
          (λ j l. rw (get_or-set_other now.out i j w 0 (λ e. omega arith)) (now.invariant.1 j l))
          (rw (get_or-set_same now.out i w 0 (omega arith)) here),
    )

pub returns : goal.returns
returns c =
    let m = length c.args.out.now in
    let size : length (row_points m) ≡ m = length-row_points m in
    record {
      size = omega arith;
      inverse = λ i l. same-inverse (apartness-consecutive {p = p} (omega arith) 1 m i (omega arith)) (c.loop-i.invariant.1 i (omega arith));
    }
