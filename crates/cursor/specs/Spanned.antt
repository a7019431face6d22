-- A span table that holds a note's rows.
use Rattle.std.specs.Prelude.{ℕ, ◌≤◌, ◌<◌, ◌≡◌, List, length}
use Rattle.std.proofs.Math.Option.{some}
use Rattle.std.proofs.Math.ListN.{get_elem?}
use Rattle.text.specs.Utf8.{note_limit}
use Rattle.texts.specs.Texts.{Texts}
use Rattle.span.specs.Row.{whole_rows, row_at}
use Rattle.note.specs.Reading.{span_rows}

-- the note and the sheet are within the limit, and the first `count` rows of the table u are the note's span rows
pub record Spanned (T : Texts) (u : List ℕ) (count : ℕ) : Type 0 where
  pub short : length T.note ≤ note_limit
  pub sheet_short : length T.sheet ≤ note_limit
  pub counted : count ≡ length (span_rows T)
  pub room : count ≤ whole_rows u
  pub rows_are : (k : ℕ) → k < count → get_elem? (span_rows T) k ≡ some (row_at u k)
