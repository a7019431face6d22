use Rattle.std.specs.Prelude.{◌≡◌}
use Rattle.scan.specs.Reading.{past}
use Rattle.scan.proofs.past_after.Given as goal

abbrev pub invariant-loop-i : goal.invariant-loop-i
invariant-loop-i g l = past (g.C.Class.has l.class) l.s l.i ≡ past (g.C.Class.has l.class) l.s l.at
