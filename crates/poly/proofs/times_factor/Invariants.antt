-- Invariant: the words before i are done, and the words from i on are a list of the same kind.
use mathlib.Core.Path.{◌≡◌}
use mathlib.Core.List.{◌++◌}
use lib.ListN.{take, drop}
use Rattle.field.specs.Field.{p}
use Rattle.poly.specs.Factor.{times_factor}
use Rattle.poly.proofs.times_factor.Given as goal

abbrev pub invariant-loop-i : goal.invariant-loop-i
invariant-loop-i l = take l.i l.f ++ times_factor p l.x (drop l.i l.f) ≡ times_factor p l.x l.initial.f
