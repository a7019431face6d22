use Prim.Native.Nat.{◌-◌}
use lib.ListN.{length}
use Rattle.enquiry.proofs.Search.{Searching}
use Rattle.enquiry.proofs.find.Given as goal

abbrev pub invariant-definitions : goal.invariant-definitions
invariant-definitions l = Searching l.s l.text l.label l.c

abbrev pub decreases-definitions : goal.decreases-definitions
decreases-definitions l = length l.s - l.c.at
