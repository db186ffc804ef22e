-- Invariant: the words from i on are done, the words before i are the given ones, and the running word is the value at x of
-- the words of z after word i.
use mathlib.Core.Path.{◌≡◌}
use mathlib.Core.List.{◌++◌}
use Prim.Native.Nat.{suc, ◌%◌}
use lib.ListN.{take, drop}
use Rattle.algebra.specs.Polynomial.{value, divided}
use Rattle.field.specs.Field.{p}
use Rattle.poly.specs.AddScaled.{scaled}
use Rattle.poly.proofs.add_divided.Given as goal

abbrev pub invariant-loop-i : goal.invariant-loop-i
invariant-loop-i l = record {
  running : l.word ≡ value (drop (suc l.i) l.z) l.x % p;
  done : l.column ≡ take l.i l.initial.column ++ scaled p l.k (drop l.i (divided l.x l.z)) (drop l.i l.initial.column);
}
