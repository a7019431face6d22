use Prim.Native.Nat.{◌≤◌}
use Rattle.cursor.specs.Starts.{rows_from}
use Rattle.cursor.proofs.Marks.{Marks}
use Rattle.cursor.proofs.mark_starts.Given as goal

abbrev pub invariant-loop-k : goal.invariant-loop-k
invariant-loop-k l = (l.k ≤ l.count) × Marks (rows_from l.spans 0 l.count) l.k l.from l.starts

abbrev pub decreases-loop-k : goal.decreases-loop-k
decreases-loop-k l = l.k
