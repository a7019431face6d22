-- The joined list, as it is read, and a table that holds it.
use Rattle.std.specs.Prelude.{ℕ, ◌≤◌, ◌≡◌, List, length}
use Rattle.texts.specs.Texts.{Texts}
use Rattle.row.specs.Row.{Listed, whole_rows}
use Rattle.row.specs.Reading.{listed_from}
use Rattle.definition.specs.Reading.{definitions}
use Rattle.joined.specs.Joined.{join}

unfoldable pub joined : Texts → List Listed
joined T = join (definitions T.note) (definitions T.sheet)

-- the definition table t holds the joined list
pub record Listing (T : Texts) (t : List ℕ) : Type 0 where
  pub room : length (joined T) ≤ whole_rows t
  pub rows_are : listed_from t 0 (length (joined T)) ≡ joined T
