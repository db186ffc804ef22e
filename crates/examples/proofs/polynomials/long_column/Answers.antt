-- The values given, 0 but for the last one, are words.
use borrow.Author.Rules.{rules}
use lib.ListN.{set, replicate}
use Rattle.field.specs.Field.{p}
use Rattle.algebra.proofs.Tests.{all_words_lem}
use Rattle.examples.proofs.polynomials.long_column.Goals as goal

pub interpolate-requires : goal.interpolate-requires
interpolate-requires c = (search rules, all_words_lem p (set (replicate 256 0) 255 1) tt, search rules)
