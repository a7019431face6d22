-- The spans of all paragraphs, counted and stored.
use Rattle.std.specs.Prelude.{ℕ, ◌≤◌, ◌<◌, ◌≡◌, List, length, Result}
use Rattle.text.specs.Utf8.{note_limit}
use Rattle.texts.specs.Texts.{Texts}
use Rattle.rows.specs.Rows
use Rattle.row.specs.Reading.{listed_from}
use Rattle.joined.specs.Reading.{joined}
use Rattle.span.specs.Row as span_table
use Rattle.definition.specs.Reading.{paragraphs}
use Rattle.most.specs.Most.{ends_of, held_of}
use Rattle.note.specs.Note.{depth_limit}
use Rattle.note.specs.Reading.{span_rows, first_deep}
use Rattle.step.specs.declared.Walk.{Walk}
use Rattle.paragraph.specs.declared.Deep.{Deep}
use Rattle.paragraph.specs.Tally as tally

-- the rows one after the other
abbrev pub span_numbers : List (List ℕ) → List ℕ
span_numbers = Rows.rows (λ row. row)

-- the span table u with these rows in front, as many as fit
abbrev pub spans_filled : List (List ℕ) → List ℕ → List ℕ
spans_filled = Rows.filled span_table.width (λ row. row)

-- both texts are within the limit, and the first `count` rows of the table t are those of the joined list
pub record Defined (T : Texts) (t : List ℕ) (count : ℕ) : Type 0 where
  pub short : length T.note ≤ note_limit
  pub short_sheet : length T.sheet ≤ note_limit
  pub counted : count ≡ length (joined T)
  pub rows_are : listed_from t 0 count ≡ joined T

-- the place of the first bracket too many, or the number of spans, and then the table u has become u'
pub record NoteMarked (T : Texts) (u : List ℕ) (r : Result Walk Deep) (u' : List ℕ) : Type 0 where
  pub walk : Walk
  pub answer : r ≡ tally.tally_of (first_deep T) walk
  pub counted : tally.number_of r ≡ 0 → walk.row ≡ length (span_rows T)
  pub table : tally.number_of r ≡ 0 → u' ≡ spans_filled (span_rows T) u
  -- no more than the paragraphs' bytes tell
  pub few : tally.number_of r ≡ 0 → length (span_rows T) ≤ ends_of (paragraphs T.note)
  pub deep : tally.number_of r ≡ 4 → depth_limit ≤ held_of (paragraphs T.note)

-- so many rows are enough for the spans of the note s, and no bracket is too many, whatever the definitions are
pub record Surely (s : List ℕ) (rows : ℕ) : Type 0 where
  pub enough : ends_of (paragraphs s) ≤ rows
  pub never : held_of (paragraphs s) < depth_limit
