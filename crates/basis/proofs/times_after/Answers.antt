-- A turn multiplies the word before i by the running product, and that product by one factor s − x more, from the last point down.
use mathlib.Core.Path.{◌≡◌}
use mathlib.Core.List.{List, ◌∷◌, ◌++◌, append_assoc, append-nil}
use Prim.Native.Nat.{ℕ, suc, ◌*◌, ◌-◌, ◌%◌, ◌<◌}
use native.Mathlib.Numerals.{add-one}
use native.Mathlib.Omega.{arith}
use lib.ListN.{length, take, drop, set, get_or}
use lib.Seq.{drop-cons, drop-length, get_or_at, length-take-le, set_at, take-length, take-suc}
use Rattle.field.specs.Field.{p}
use Rattle.basis.specs.Passes.{mapped, points_from, times_after}
use Rattle.basis.proofs.PassLaws.{times-running, running-factor, none_from, next_from}
use Rattle.basis.proofs.times_after.Goals as goal

module _ (g : ℕ → ℕ → ℕ) (f : List ℕ) (j : ℕ) (h : j < length f) where
  apart : (rest : List ℕ) → take (suc j) f ++ rest ≡ take j f ++ get_or f j 0 ∷ rest
  apart rest = rw (take-suc f j 0 h, append_assoc)

  word : (rest : List ℕ) → get_or (take (suc j) f ++ rest) j 0 ≡ get_or f j 0
  word rest = rw (apart rest) (get_or_at (take j f) _ rest 0 j (length-take-le j f (omega arith)))

  step : {v : ℕ} → v ≡ g j (get_or f j 0) →
      set (take (suc j) f ++ mapped g (suc j) (drop (suc j) f)) j v ≡ take j f ++ mapped g j (drop j f)
  unfolding mapped
  step {v} e =
      let done = mapped g (suc j) (drop (suc j) f) in
      rw (apart done, set_at (take j f) (get_or f j 0) done v j (length-take-le j f (omega arith)), drop-cons f j 0, e)

pub loop-i-init : goal.loop-i-init
unfolding mapped
loop-i-init c =
    let f = c.args.out.now in
    (rw (none_from p c.args.s (length f)), rw (drop-length f, append-nil, take-length f))

pub loop-i-preserved : goal.loop-i-preserved
loop-i-preserved c =
    let now = c.loop-i in
    let s = c.args.s in
    let f = c.args.out.now in
    let m = length f in
    let j = now.i - 1 in
    let here : j < m = omega arith in
    let i-is : now.i ≡ suc j = omega arith in
    let v = points_from p m s (suc j) in
    let g : ℕ → ℕ → ℕ = λ k a. a * points_from p m s (suc k) % p in
    let after : now.after ≡ v % p = rw i-is at now.invariant.0 in
    let so_far = rw i-is at now.invariant.1 in
    let read : c.times.result ≡ get_or f j 0 * now.after % p = rw (so_far, word g f j here _) at c.times.ensures in (
      running-factor p s (suc j) v after (rw add-one at c.minus.ensures) c.times-after.ensures (next_from p s m j here),
      rw so_far (step g f j here (times-running p s (get_or f j 0) v after read)),
    )

pub returns : goal.returns
unfolding times_after
returns c =
    let none : c.loop-i.i ≡ 0 = omega arith in
    rw none at c.loop-i.invariant.1
