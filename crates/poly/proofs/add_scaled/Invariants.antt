-- Invariant: the words before i are done, and the sum of the words from i on is still to be made.
use mathlib.Core.Path.{◌≡◌}
use mathlib.Core.List.{◌++◌}
use lib.ListN.{take, drop}
use Rattle.field.specs.Field.{p}
use Rattle.poly.specs.AddScaled.{scaled}
use Rattle.poly.proofs.add_scaled.Given as goal

abbrev pub invariant-loop-i : goal.invariant-loop-i
invariant-loop-i l = take l.i l.dst ++ scaled p l.k (drop l.i l.src) (drop l.i l.dst) ≡ scaled p l.k l.src l.initial.dst
