-- The rows of a table that are the joined list.
use Rattle.std.specs.Prelude.{◌≡◌, length}
use Rattle.row.specs.declared.listing.Definitions.{Definitions}
use Rattle.row.specs.Listing.{texts_of}
use Rattle.joined.specs.Reading.{joined, Listing}

-- the table holds the joined list of the texts, and these are all its rows
pub record HoldsJoined (d : Definitions) : Type 0 where
  pub listing : Listing (texts_of d) d.table.now
  pub count : d.count ≡ length (joined (texts_of d))
