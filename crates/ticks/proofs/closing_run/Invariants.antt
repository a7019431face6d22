use mathlib.Core.Path.{◌≡◌}
use Prim.Native.Nat.{◌-◌}
use lib.ListN.{length, drop}
use Rattle.inline.specs.ReadingPieces.{closing_run}
use Rattle.ticks.proofs.closing_run.Given as goal

abbrev pub invariant-loop-i : goal.invariant-loop-i
invariant-loop-i l = closing_run l.n (drop l.i l.s) l.i ≡ closing_run l.n (drop l.at l.s) l.at

abbrev pub decreases-loop-i : goal.decreases-loop-i
decreases-loop-i l = length l.s - l.i
