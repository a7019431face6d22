-- The same of the rows of a table with their texts.
use Rattle.std.specs.Prelude.{ℕ, List}
use Rattle.row.specs.declared.listing.Definitions.{Definitions}
use Rattle.row.specs.Listing.{texts_of}
use Rattle.indexing.specs.Building.{Follows}

abbrev pub FollowsIn : Definitions → List ℕ → ℕ → Type 0
FollowsIn d = Follows (texts_of d) d.table.now d.count
