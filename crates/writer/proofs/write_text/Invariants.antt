use Prim.Native.Nat.{◌-◌}
use Rattle.writer.proofs.Texts.{RunsText}
use Rattle.writer.proofs.write_text.Given as goal

abbrev pub invariant-loop-i : goal.invariant-loop-i
invariant-loop-i l = RunsText l.note l.end l.stop l.at l.fn.page l.page l.i

abbrev pub decreases-loop-i : goal.decreases-loop-i
decreases-loop-i l = l.stop - l.i
