-- Invariant: the words before i are done, and the product of f's words from i on is still to be added into the words from i on.
use mathlib.Core.Path.{◌≡◌}
use mathlib.Core.List.{◌++◌}
use lib.ListN.{take, drop}
use Rattle.field.specs.Field.{p}
use Rattle.poly.specs.Product.{add_product}
use Rattle.poly.proofs.add_product.Given as goal

abbrev pub invariant-loop-i : goal.invariant-loop-i
invariant-loop-i l = take l.i l.room ++ add_product p (drop l.i l.f) l.g (drop l.i l.room) ≡ add_product p l.f l.g l.initial.room
