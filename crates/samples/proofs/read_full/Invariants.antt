-- What stands at the start of the room is no more than it, and the rest of the room shrinks from read to read.
use Rattle.std.proofs.Common.{length, ◌-◌, ◌≤◌}
use Rattle.samples.proofs.read_full.Given as goal

abbrev pub invariant-loop-done : goal.invariant-loop-done
invariant-loop-done g l = l.done ≤ length l.room

abbrev pub decreases-loop-done : goal.decreases-loop-done
decreases-loop-done g l = length l.room - l.done
