-- A turn adds one word of f times g into the part from i on, whose first word is then done.
use mathlib.Core.Path.{◌≡◌, refl, ◌∙◌}
use mathlib.Core.List.{List, ◌++◌, append_assoc}
use Prim.Native.Nat.{ℕ, ◌+◌, ◌≤◌, ◌<◌}
use native.Mathlib.Omega.{arith}
use lib.ListN.{length, take, drop, get_or}
use lib.Seq.{length-take-le, take-append-add, drop-append-add}
use Rattle.std.proofs.lemmas.List.{drop_more}
use Rattle.field.specs.Field.{p}
use Rattle.poly.specs.AddScaled.{scaled}
use Rattle.poly.specs.Product.{add_product}
use Rattle.poly.proofs.Slices.{lent_back}
use Rattle.poly.proofs.add_product.Goals as goal

step : (f g room added : List ℕ) (i : ℕ) → i < length f → i ≤ length room → added ≡ scaled p (get_or f i 0) g (drop i room) →
    take (i + 1) (take i room ++ added) ++ add_product p (drop (i + 1) f) g (drop (i + 1) (take i room ++ added)) ≡
    take i room ++ add_product p (drop i f) g (drop i room)
unfolding add_product
step f g room added i hf hr e =
    let at_i : length (take i room) ≡ i = length-take-le i room hr in
    rw (rw at_i at (take-append-add (take i room) added 1), rw at_i at (drop-append-add (take i room) added 1), drop_more f i 0 hf, append_assoc, e)

pub loop-i-preserved : goal.loop-i-preserved
loop-i-preserved c =
    let now = c.loop-i in
    let f = c.args.f.now in
    let g = c.args.g.now in
    rw (lent_back (λ part. scaled p (get_or f now.i 0) g part) now.room now.i c.add_scaled.ensures)
    (step f g now.room _ now.i (omega arith) (omega arith) refl ∙ now.invariant)
