-- The room begins as zeros, so what the loop adds is all that it holds.
use mathlib.Core.Path.{◌∙◌}
use native.Mathlib.Omega.{arith}
use Rattle.field.specs.Field.{p}
use Rattle.slices.specs.Zeros.{zeros}
use Rattle.poly.proofs.ProductLaws.{product_in_zeros}
use Rattle.poly.proofs.product.Goals as goal

pub returns : goal.returns
unfolding zeros
returns c =
    let args = c.args in
    c.add_product.ensures ∙
    product_in_zeros {p = p} (omega arith) args.f.now args.g.now 513 (omega arith) (omega arith)
