use mathlib.Core.Path.{◌≡◌}
use Prim.Native.Nat.{◌+◌}
use lib.ListN.{drop}
use Rattle.target.specs.Reading.{space_from, space_run}
use Rattle.target.proofs.space_end.Given as goal

abbrev pub invariant-loop-i : goal.invariant-loop-i
invariant-loop-i l = l.i + space_from l.line (drop l.i l.s) ≡ l.at + space_run (drop l.at l.s)
