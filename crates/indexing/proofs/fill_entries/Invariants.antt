use mathlib.Core.Path.{◌≡◌}
use lib.ListN.{length}
use Rattle.row.specs.Listing.{texts_of}
use Rattle.indexing.specs.Building.{rows, Entries}
use Rattle.indexing.proofs.fill_entries.Given as goal

abbrev pub invariant-loop-k : goal.invariant-loop-k
invariant-loop-k l = (length l.entries ≡ rows) × Entries (texts_of l.d) l.d.table.now l.k l.entries
