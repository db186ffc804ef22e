-- A turn adds −x times the next word to the word at i; the last word has none after it, and stays.
use mathlib.Core.Path.{◌≡◌, refl, ◌∙◌}
use mathlib.Core.List.{List, [], ◌∷◌}
use Prim.Native.Nat.{ℕ, ◌≤◌}
use native.Mathlib.Omega.{arith}
use lib.ListN.{length}
use Rattle.std.proofs.lemmas.Grind.{common_steps}
use Rattle.algebra.proofs.Congruence.{≈_refl}
use Rattle.field.specs.Field.{p}
use Rattle.poly.specs.Factor.{times_factor}
use Rattle.poly.proofs.Slices.{same_word, minus-same}
use Rattle.poly.proofs.times_factor.Goals as goal

-- one word, or none, is done as it stands
short : (x : ℕ) (f : List ℕ) → length f ≤ 1 → times_factor p x f ≡ f
unfolding times_factor
short x [] h = refl
short x (a ∷ []) h = refl
short x (a ∷ b ∷ f) h = absurd (omega arith)

pub loop-i-preserved : goal.loop-i-preserved
unfolding times_factor
loop-i-preserved c =
    let word = c.add_scaled.ensures ∙ same_word {p = p} _ (minus-same c.args.x c.minus-k.ensures) (≈_refl p _) in
    grind (arith, common_steps)

pub returns : goal.returns
returns c = grind (arith, common_steps, short)
