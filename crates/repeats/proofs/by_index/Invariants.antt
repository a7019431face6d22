use Rattle.row.specs.Listing.{texts_of}
use Rattle.repeats.specs.Repeats.{Least}
use Rattle.repeats.proofs.by_index.Given as goal

abbrev pub invariant-loop-p : goal.invariant-loop-p
invariant-loop-p l = let d = l.rows.definitions.now in Least (texts_of d) d.count l.rows.index.now l.p l.best
