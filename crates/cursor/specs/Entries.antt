-- What an entry of the table of places tells.
use Rattle.std.specs.Prelude.{ℕ, Option, None, Some, cond}
use Rattle.cursor.specs.declared.Start.{Start}
use Rattle.cursor.specs.Starts.{free, tags_in, index_in}

-- the row that starts at its place, if one does
abbrev pub start_in : ℕ → Option Start
start_in e = cond (free e) None (Some (record { row = index_in e; tags = tags_in e }))
