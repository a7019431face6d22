use mathlib.Core.Path.{◌≡◌}
use Rattle.row.specs.Reading.{row_from}
use Rattle.row.specs.Listing.{texts_of}
use Rattle.row.proofs.lookup_folded.Given as goal

abbrev pub invariant-loop-k : goal.invariant-loop-k
invariant-loop-k l = row_from (texts_of l.d) l.d.table.now l.label l.k l.d.count ≡ row_from (texts_of l.d) l.d.table.now l.label l.from l.d.count
