-- What a sheet leaves as it is: with an empty one every answer is that of the note alone; a label that the note defines never opens the sheet's; and a sheet that only
-- repeats labels of the note changes no span row and no byte of the page.
use Rattle.std.specs.Prelude.{ℕ, ◌≤◌, ◌<◌, ◌≡◌, List, [], true, false, length, get_or}
use Rattle.scan.specs.Member.{In}
use Rattle.texts.specs.Texts.{Texts, texts}
use Rattle.matching.specs.Form.{Equal}
use Rattle.row.specs.First.{bytes_of, named_text}
use Rattle.definition.specs.Reading.{definitions}
use Rattle.span.specs.Row.{is_reference}
use Rattle.note.specs.Reading as both
use Rattle.note.specs.Note.{Marked}
use Rattle.note.specs.Claims.{looked_up}
use Rattle.page.specs.Reading as both_page
use Rattle.notice.specs.Answers as reader
use Rattle.notice.specs.Reading as reader_readings
use Rattle.rendering.specs.Answers.{Rendering}
use Rattle.rendering.specs.Answers as writer
use Rattle.rendering.specs.Reading as writer_readings
use Rattle.enquiry.specs.Enquiry as enquiries
use Rattle.enquiry.specs.Reading as enquiry_readings
use Rattle.sheet.specs.Alone as alone
use Rattle.sheet.specs.Answers as alone_answers

-- "An empty sheet must give the old answers, where as many whole definition rows are lent, but for that leading 0 and the text named." The old answers know no release:
-- the setting is no. The calls give what stands on the left of each line, by their promises; on the right stands what is said of the note s alone.
pub record EmptySheet (s : List ℕ) : Type 0 where
  -- number, value and counts
  pub reading : (definition_rows rows_of_spans : ℕ) → reader_readings.reading_of false (texts s []) definition_rows rows_of_spans ≡ alone_answers.reading_of s definition_rows rows_of_spans
  pub reading_named : (definition_rows rows_of_spans : ℕ) → reader.named_of (reader_readings.reading_of false (texts s []) definition_rows rows_of_spans) ≡ 0
  -- what the tables hold after an answer with this number
  pub table_of_definitions : (number : ℕ) (t : List ℕ) → reader_readings.definition_table_of (texts s []) number t ≡ alone_answers.definition_table_of s number t
  -- none has a number past 6
  pub span_table : (number : ℕ) (u : List ℕ) → number ≤ 6 → reader_readings.span_table_of (texts s []) number u ≡ alone_answers.span_table_of s number u
  -- the page writer
  pub rendering : (definition_rows rows_of_spans room : ℕ) → writer_readings.rendering_of false (texts s []) definition_rows rows_of_spans room ≡ alone_answers.rendering_of s definition_rows rows_of_spans room
  pub rendering_named : (definition_rows rows_of_spans room : ℕ) → writer.named_of (writer_readings.rendering_of false (texts s []) definition_rows rows_of_spans room) ≡ 0
  pub page_buffer : (r : Rendering) (p : List ℕ) → writer_readings.page_buffer_of (texts s []) r p ≡ alone_answers.page_buffer_of s r p
  -- the enquiry
  pub enquiry : (label : List ℕ) → enquiry_readings.enquiry_of (texts s []) label ≡ alone_answers.enquiry_of s label
  pub enquiry_named : (label : List ℕ) → enquiries.named_of (enquiry_readings.enquiry_of (texts s []) label) ≡ 0

-- ---- labels of the note
-- one of these labels is equal to the label
pub record There (labels : List (List ℕ)) (label : List ℕ) : Type 0 where
  pub index : ℕ
  pub within : index < length labels
  pub equal : Equal (get_or labels index []) label

-- each of the others has an equal one among these
abbrev pub EachThere : List (List ℕ) → List (List ℕ) → Type 0
EachThere labels others = (i : ℕ) → i < length others → There labels (get_or others i [])

-- A label that the note defines never opens the sheet's: a reference row whose label the note defines has the number of one of the note's definitions, and its
-- destination and title lie in the note. (Of the enquiry: `NoteWins`.)
pub record NoteFirst (T : Texts) : Type 0 where
  pub number : (row : List ℕ) → In row (both.span_rows T) → is_reference (get_or row 0 0) ≡ true → There (alone.labels T.note) (bytes_of T.note (looked_up row))
      → get_or row 5 0 ≤ length (definitions T.note)
  pub text : (n : Marked T) (row : List ℕ) → In row (both.span_rows T) → is_reference (get_or row 0 0) ≡ true → There (alone.labels T.note) (bytes_of T.note (looked_up row))
      → named_text T n.list (get_or row 5 0) ≡ T.note

-- A sheet that defines only labels that the note defines too: span rows, the first bracket too many and the page are those of the note alone.
pub record RepeatedSheet (T : Texts) : Type 0 where
  pub rows_of_spans : both.span_rows T ≡ alone.span_rows T.note
  pub first_too_deep : both.first_deep T ≡ alone.first_deep T.note
  pub page : both_page.page_of T ≡ alone.page_of T.note

pub record SheetClaims (T : Texts) : Type 0 where
  pub empty_sheet : EmptySheet T.note
  pub note_first : NoteFirst T
  pub repeated_sheet : EachThere (alone.labels T.note) (alone.labels T.sheet) → RepeatedSheet T
