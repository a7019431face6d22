use Prim.Native.Nat.{◌-◌}
use lib.ListN.{length}
use Rattle.escaping.specs.Escaping.{escaped}
use Rattle.escaping.specs.Reading.{undone}
use Rattle.escaping.proofs.Gives.{Gives}
use Rattle.escaping.proofs.put_text.Given as goal

abbrev pub invariant-loop-i : goal.invariant-loop-i
invariant-loop-i l = Gives escaped undone l.s l.fn.page l.page l.i

abbrev pub decreases-loop-i : goal.decreases-loop-i
decreases-loop-i l = length l.s - l.i
