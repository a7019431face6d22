use Prim.Native.Nat.{◌-◌}
use Rattle.matching.specs.Reading.{compared}
use Rattle.row.specs.Listing.{texts_of}
use Rattle.index.specs.Index.{Window, Seen}
use Rattle.searching.proofs.bound.Given as goal

abbrev pub invariant-loop-lo : goal.invariant-loop-lo
invariant-loop-lo l =
    let d = l.rows.definitions.now in record {
      window : Window (texts_of d) d.table.now d.count l.rows.index.now (compared l.sought.label.now) l.lo l.hi;
      seen : Seen (texts_of d) d.table.now d.count l.rows.index.now (compared l.sought.label.now) l.hi l.same;
    }

abbrev pub decreases-loop-lo : goal.decreases-loop-lo
decreases-loop-lo l = l.hi - l.lo
