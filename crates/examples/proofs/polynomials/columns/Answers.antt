-- The values given are words.
use borrow.Author.Rules.{rules}
use mathlib.Core.List.{[], ◌∷◌}
use Rattle.field.specs.Field.{p}
use Rattle.algebra.proofs.Tests.{all_words_lem}
use Rattle.examples.proofs.polynomials.columns.Goals as goal

pub column-requires : goal.column-requires
column-requires c = (search rules, all_words_lem p (1 ∷ 0 ∷ []) tt)

pub column-requires-2 : goal.column-requires-2
column-requires-2 c = (search rules, all_words_lem p (0 ∷ 2 ∷ []) tt)
