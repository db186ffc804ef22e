-- A turn multiplies the word at i by the running product, and that product by one factor s − x more.
use mathlib.Core.Path.{◌≡◌, ◌∙◌}
use mathlib.Core.List.{List, ◌++◌, append_assoc, append-nil}
use Prim.Native.Nat.{ℕ, suc, ◌+◌, ◌*◌, ◌%◌, ◌<◌}
use native.Mathlib.Numerals.{add-one}
use native.Mathlib.Omega.{arith}
use borrow.Author.Rules.{rules}
use lib.ListN.{length, take, drop, set, get_or}
use lib.Seq.{drop-cons, drop-length, take-length, take-suc-set, drop-set-lt}
use Rattle.field.specs.Field.{p}
use Rattle.basis.specs.Passes.{mapped, points_before, times_before}
use Rattle.basis.proofs.PassLaws.{times-running, running-factor, none_before, next_before}
use Rattle.basis.proofs.times_before.Goals as goal

step : (g : ℕ → ℕ → ℕ) (f : List ℕ) (i : ℕ) → i < length f → {v : ℕ} → v ≡ g i (get_or f i 0) →
    take (i + 1) (set f i v) ++ mapped g (i + 1) (drop (i + 1) (set f i v)) ≡ take i f ++ mapped g i (drop i f)
unfolding mapped
step g f i h {v} e = rw (add-one, take-suc-set f i v h, drop-set-lt (suc i) f i v (omega arith), append_assoc, drop-cons f i 0, e)

pub loop-i-init : goal.loop-i-init
unfolding times_before
loop-i-init c = (rw (none_before p c.args.s), search rules)

pub loop-i-preserved : goal.loop-i-preserved
loop-i-preserved c =
    let now = c.loop-i in
    let i = now.i in
    let s = c.args.s in
    let v = points_before p s i in (
      rw add-one (running-factor p s (suc i) v now.invariant.0 (rw add-one at c.minus.ensures) c.times-before.ensures (next_before p s i)),
      step (λ j a. a * points_before p s j % p) now.out i (omega arith)
          (times-running p s (get_or now.out i 0) v now.invariant.0 c.times.ensures) ∙ now.invariant.1,
    )

pub returns : goal.returns
unfolding mapped
returns c =
    let now = c.loop-i in
    let out : now.i ≡ length now.out = omega arith in
    let args : now.i ≡ length c.args.out.now = omega arith in (
      rw (out, drop-length now.out, append-nil, take-length now.out) at now.invariant.1,
      rw args at now.invariant.0,
    )
