-- From the top word down, each word plus s times the sum so far: Horner's value, kept modulo p.
use mathlib.Core.Path.{◌≡◌, refl, ◌∙◌}
use mathlib.Core.List.{List, [], ◌∷◌, reverse}
use Prim.Native.Nat.{ℕ, ◌+◌, ◌*◌, ◌%◌}
use borrow.Author.Rules.{rules}
use Rattle.std.specs.Prelude.{fold}
use Rattle.std.proofs.lemmas.Iterator.Adapters.{YieldsList-from_rev_slice}
use Rattle.std.proofs.lemmas.Iterator.Consumers.{fold_from_yields_List}
use Rattle.std.proofs.lemmas.Grind.{reverse_onto}
use Rattle.std.proofs.lemmas.List.Sums.{fold-append}
use Rattle.algebra.specs.Polynomial.{value}
use Rattle.field.specs.Field.{p}
use Rattle.poly.proofs.Slices.{reduced_word}
use Rattle.poly.proofs.value_at.Goals as goal

horner : (f : List ℕ) (s : ℕ) → fold (λ sum a. (a + s * sum) % p) 0 (reverse f) ≡ value f s % p
unfolding value
horner [] s = refl
horner (a ∷ f) s = rw (reverse_onto f a [], fold-append, horner f s, reduced_word)

pub returns : goal.returns
returns c =
    fold_from_yields_List _ (λ sum a. (a + c.args.s * sum) % p) 0 _ c.fold.ensures.ran (YieldsList-from_rev_slice c.args.f.now cc) (λ a x b q h. search rules)
    ∙ horner c.args.f.now c.args.s
