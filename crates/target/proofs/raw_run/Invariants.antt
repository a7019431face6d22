use mathlib.Core.Path.{◌≡◌}
use Prim.Native.Nat.{◌≤◌}
use lib.ListN.{drop}
use Rattle.target.specs.Reading.{run_from, run_to}
use Rattle.target.proofs.raw_run.Given as goal

abbrev pub invariant-loop-i : goal.invariant-loop-i
invariant-loop-i l = (l.depth ≤ l.i) × (run_from l.marks (drop l.i l.s) (record { at = l.i; inside = l.inside; depth = l.depth }) ≡ run_to l.marks (drop l.at l.s) l.at)
