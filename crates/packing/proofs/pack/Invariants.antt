-- Invariant: the bytes before 4 i, with those of the words left, are the bytes of all words.
use Rattle.std.proofs.Common.{◌≡◌, ◌*◌, ◌++◌, take, drop}
use Rattle.packing.specs.Packing.{packed}
use Rattle.packing.proofs.pack.Given as goal

abbrev pub invariant-loop-i : goal.invariant-loop-i
invariant-loop-i l = take (4 * l.i) l.bytes ++ packed (drop l.i l.words) ≡ packed l.words
