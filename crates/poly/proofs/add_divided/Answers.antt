-- A turn makes the next word of the quotient by X − x, which is a value at x, and adds k times it at i.
use mathlib.Core.Path.{◌≡◌, refl, ap}
use mathlib.Core.List.{List, [], ◌∷◌, ◌++◌}
use Prim.Native.Nat.{ℕ, zero, suc, ◌+◌, ◌*◌, ◌-◌, ◌<◌, ◌%◌}
use native.Mathlib.Numerals.{add-one}
use native.Mathlib.Omega.{arith}
use lib.ListN.{length, take, drop, get_or}
use lib.Seq.{drop-cons}
use Rattle.std.proofs.lemmas.Grind.{common_steps}
use Rattle.algebra.specs.Polynomial.{value, divided}
use Rattle.field.specs.Field.{p}
use Rattle.poly.specs.AddScaled.{scaled}
use Rattle.poly.proofs.ScaledLaws.{scaled-nil}
use Rattle.poly.proofs.Slices.{reduced_word, back_get, back-set}
use Rattle.poly.proofs.add_divided.Goals as goal

-- word j of the quotient by X − x
drop-divided : (z : List ℕ) (x j : ℕ) → suc j < length z → drop j (divided x z) ≡ value (drop (suc j) z) x ∷ drop (suc j) (divided x z)
unfolding divided
drop-divided [] x j h = absurd (omega arith)
drop-divided (a ∷ []) x j h = absurd (omega arith)
drop-divided (a ∷ b ∷ z) x zero h = refl
drop-divided (a ∷ b ∷ z) x (suc j) h = drop-divided (b ∷ z) x j (omega arith)

step : (column z : List ℕ) (k x j : ℕ) {word v : ℕ} → suc j < length z → j < length column → word ≡ value (drop (suc j) z) x % p →
    v ≡ (get_or column j 0 + k * word) % p →
    v ∷ scaled p k (drop (suc j) (divided x z)) (drop (suc j) column) ≡ scaled p k (drop j (divided x z)) (drop j column)
unfolding scaled
step column z k x j hz hc e n = rw (drop-cons column j 0, drop-divided z x j, n, e, reduced_word)

-- Horner's step: one word more in front of those that the running word stands for
horner : (z : List ℕ) (x j : ℕ) {word next : ℕ} → j < length z → word ≡ value (drop (suc j) z) x % p →
    next ≡ (get_or z j 0 + x * word) % p → next ≡ value (drop j z) x % p
unfolding value
horner z x j h e n = rw (n, e, drop-cons z j 0, reduced_word)

pub loop-i-init : goal.loop-i-init
unfolding value
loop-i-init c = grind (arith, common_steps, scaled-nil)

pub loop-i-preserved : goal.loop-i-preserved
loop-i-preserved c =
    let now = c.loop-i in
    let args = c.args in
    let column = args.column.now in
    let z = args.z.now in
    let j = now.i - 1 in
    let i-is : now.i ≡ suc j = omega arith in
    let done = scaled p args.k (drop (suc j) (divided args.x z)) (drop (suc j) column) in
    let so_far : now.column ≡ take (suc j) column ++ done = rw i-is at now.invariant.done in
    let here : j < length column = omega arith in
    let word : c.add_scaled-word.result ≡ value (drop (suc j) z) args.x % p =
    horner z args.x (suc j) (omega arith) (rw i-is at now.invariant.running) (rw add-one at c.add_scaled-word.ensures) in
    let written = rw (so_far, back_get column j here done) at c.add_scaled.ensures in
    record {
      running = word;
      done = rw (so_far, back-set column j here done _)
          (ap (λ (r : List ℕ). take j column ++ r) (step column z args.k args.x j (omega arith) here word written));
    }
