use Prim.Native.Nat.{◌-◌}
use lib.ListN.{length}
use Rattle.href.specs.Href.{href_byte}
use Rattle.escaping.specs.Reading.{undone}
use Rattle.escaping.proofs.Gives.{Gives}
use Rattle.href.proofs.put_href.Given as goal

abbrev pub invariant-loop-i : goal.invariant-loop-i
invariant-loop-i l = Gives href_byte undone l.s l.fn.page l.page l.i

abbrev pub decreases-loop-i : goal.decreases-loop-i
decreases-loop-i l = length l.s - l.i
