use Rattle.std.specs.Prelude.{◌-◌, length}
use Rattle.label.proofs.Unclosed.{Stands}
use Rattle.label.proofs.ends_unclosed.Given as goal

abbrev pub invariant-loop-i : goal.invariant-loop-i
invariant-loop-i l = Stands l.l l.i

abbrev pub decreases-loop-i : goal.decreases-loop-i
decreases-loop-i l = length l.l - l.i
