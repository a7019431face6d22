-- The same of the rows of a table with their texts.
use Rattle.std.specs.Prelude.{ℕ, List}
use Rattle.row.specs.declared.listing.Definitions.{Definitions}
use Rattle.row.specs.Listing.{texts_of}
use Rattle.index.specs.Index.{IsEntry, Before, Sorted, Holds, Ready}

module _ (d : Definitions) where
  abbrev pub IsEntryOf : ℕ → Type 0
  IsEntryOf = IsEntry (texts_of d) d.table.now d.count

  abbrev pub BeforeIn : ℕ → ℕ → Type 0
  BeforeIn = Before (texts_of d) d.table.now

  abbrev pub SortedIn : List ℕ → Type 0
  SortedIn = Sorted (texts_of d) d.table.now d.count

  abbrev pub HoldsAll : List ℕ → Type 0
  HoldsAll = Holds (texts_of d) d.table.now d.count

  abbrev pub ReadyFor : List ℕ → Type 0
  ReadyFor = Ready (texts_of d) d.table.now d.count
