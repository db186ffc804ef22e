-- Invariant: the words before i are Newton's coefficients, and those of the words from there on are still to be made of them.
use mathlib.Core.Path.{◌≡◌}
use mathlib.Core.List.{◌++◌}
use Prim.Native.Nat.{◌-◌}
use lib.ListN.{length, take, drop}
use Rattle.algebra.specs.Polynomial.{Words}
use Rattle.field.specs.Field.{p}
use Rattle.poly.specs.Interpolation.{newton}
use Rattle.poly.proofs.interpolation.divide_differences.Given as goal

abbrev pub invariant-loop-i : goal.invariant-loop-i
invariant-loop-i l = record {
  words : Words p l.v;
  done : take l.i l.v ++ newton p l.inverses (length l.initial.v - l.i) (drop l.i l.v) ≡ newton p l.inverses (length l.initial.v) l.initial.v;
}
