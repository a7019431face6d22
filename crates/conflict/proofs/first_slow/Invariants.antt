use Rattle.row.specs.Listing.{texts_of}
use Rattle.conflict.proofs.Turns.{NoneBefore}
use Rattle.conflict.proofs.first_slow.Given as goal

abbrev pub invariant-loop-k : goal.invariant-loop-k
invariant-loop-k l = NoneBefore (texts_of l.d) l.d.count l.k
