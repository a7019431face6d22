use Prim.Native.Nat.{◌-◌}
use lib.ListN.{length}
use Rattle.ticks.proofs.Passing.{Seen}
use Rattle.ticks.proofs.last_runs.Given as goal

abbrev pub invariant-loop-i : goal.invariant-loop-i
invariant-loop-i l = Seen l.p l.i l.table

abbrev pub decreases-loop-i : goal.decreases-loop-i
decreases-loop-i l = length l.p - l.i
