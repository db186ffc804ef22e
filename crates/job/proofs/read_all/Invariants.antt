-- What was read is a part of the bytes, and each turn leaves fewer to read: a read of none ends the loop.
use Rattle.std.proofs.Common.{◌-◌, ◌≤◌, length}
use Rattle.job.proofs.read_all.Given as goal

abbrev pub invariant-loop-size : goal.invariant-loop-size
invariant-loop-size l = l.size ≤ length l.bytes

abbrev pub decreases-loop-size : goal.decreases-loop-size
decreases-loop-size l = length l.initial.bytes - l.size
