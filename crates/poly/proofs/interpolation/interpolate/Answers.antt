-- First the differences, then the powers; neither changes the length.
use mathlib.Core.Path.{◌∙◌}
use Rattle.poly.specs.Interpolation.{interpolated}
use Rattle.poly.proofs.interpolation.interpolate.Goals as goal

pub returns : goal.returns
unfolding interpolated
returns c =
    let first = c.divide_differences in
    c.expand_powers.ensures ∙ rw (first.auto.v, first.ensures)
