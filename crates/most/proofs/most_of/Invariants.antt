use Prim.Native.Nat.{◌-◌}
use lib.ListN.{length}
use Rattle.most.proofs.Passing.{Counting}
use Rattle.most.proofs.most_of.Given as goal

abbrev pub invariant-loop-i : goal.invariant-loop-i
invariant-loop-i l = Counting l.p l.i l.m

abbrev pub decreases-loop-i : goal.decreases-loop-i
decreases-loop-i l = length l.p - l.i
