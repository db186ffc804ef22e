-- a and its remainder have the same inverse.
use Rattle.algebra.proofs.Congruence.{≈_sym, ≈_trans, ≈-product, ≈_refl, ≈-reduced}
use Rattle.field.specs.Field.{p}
use Rattle.field.proofs.inverse.Goals as goal

pub returns : goal.returns
returns c =
    let found = c.word_inverse.ensures in
    record {
      of_zero = λ h. absurd (c.if-word-eq0.false h.same);
      of_nonzero =
          λ _. record {
            word = found.word;
            leaves_one = ≈_trans (≈-product (≈_sym (≈-reduced p _)) (≈_refl p _)) found.leaves_one;
          };
    }
