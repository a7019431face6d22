use Prim.Native.Nat.{◌-◌}
use lib.ListN.{length}
use Rattle.line.specs.Promise.{Before}
use Rattle.line.proofs.line_at.Given as goal

abbrev pub invariant-loop-end : goal.invariant-loop-end
invariant-loop-end l = Before l.s (record { number = l.number; end = l.end }) l.place

abbrev pub decreases-loop-end : goal.decreases-loop-end
decreases-loop-end l = length l.s - l.end
