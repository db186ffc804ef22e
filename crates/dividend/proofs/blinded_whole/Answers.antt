-- The row sums stand in front of the word of room when the list is blinded.
use native.Mathlib.Omega.{arith}
use Rattle.circuit.proofs.Rows.{row_range}
use Rattle.field.proofs.PrimeField.{field_prime}
use Rattle.dividend.proofs.WholeLaws.{whole-size, whole_words, whole-blinded}
use Rattle.dividend.proofs.blinded_whole.Goals as goal

pub blind-requires : goal.blind-requires
blind-requires c =
    let given = c.requires.0 in
    let made = c.whole_sums.ensures in (
      record {
        few = omega (arith, (row_range given.circuit).at_most, given.count);
        is_target = rw given.count given.is_target;
        room = whole-size field_prime _ _ _ _ _ _ given.count c.requires.2 made;
      },
      whole_words field_prime _ _ _ _ _ _ given.count c.requires.2 made,
    )

pub returns : goal.returns
returns c =
    let given = c.requires.0 in
    let made = c.whole_sums.ensures in
    whole-blinded field_prime _ _ _ _ _ _ given.count c.requires.2 made c.blind.ensures
