use Rattle.std.specs.Prelude.{◌≡◌, ◌-◌, length}
use Rattle.scan.specs.Reading.{past_strides}
use Rattle.scan.proofs.past_strides.Given as goal

abbrev pub invariant-loop-i : goal.invariant-loop-i
invariant-loop-i g l = past_strides (g.C.Class.has l.class) l.s l.i ≡ past_strides (g.C.Class.has l.class) l.s l.at

abbrev pub decreases-loop-i : goal.decreases-loop-i
decreases-loop-i g l = length l.s - l.i
