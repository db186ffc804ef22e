-- The values stay in front while the last word becomes 0; their list, and d times the target added, is the law's.
use mathlib.Core.Path.{◌∙◌}
use native.Mathlib.Omega.{arith}
use lib.Seq.{length-take-le}
use Rattle.std.proofs.lemmas.Grind.{common_steps}
use Rattle.field.proofs.PrimeField.{field_prime}
use Rattle.dividend.proofs.TargetWords.{target_words}
use Rattle.dividend.proofs.BlindedLaws.{values-kept, last-zero, blinded_law}
use Rattle.dividend.proofs.blind.Goals as goal

pub interpolate-requires : goal.interpolate-requires
interpolate-requires c =
    let m = c.args.m in
    let out = c.args.out.now in
    rw (values-kept m out c.requires.0.room) (omega (arith, length-take-le m out (omega arith)), c.requires.1, c.inverses-inverses.ensures)

pub add_scaled-requires : goal.add_scaled-requires
add_scaled-requires c = grind (arith, common_steps, target_words)

pub returns : goal.returns
returns c =
    let given = c.requires.0 in
    let m = c.args.m in
    let out = c.args.out.now in
    blinded_law field_prime m out given.room given.few c.requires.1 _ c.inverses-inverses.ensures c.args.d _ _ given.is_target
    (c.add_scaled.ensures ∙ rw (c.interpolate.ensures, values-kept m out given.room, last-zero m out given.room))
