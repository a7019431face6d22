-- What the release setting changes, and what it leaves as it is. Document 02, request 8.
use Rattle.std.specs.Prelude.{ℕ, ◌≤◌, ◌<◌, ◌≡◌, ◌↔◌, ◌⊎◌, List, true, false, length}
use Rattle.matching.specs.Form.{Equal}
use Rattle.texts.specs.Texts.{Texts}
use Rattle.row.specs.Row.{Listed}
use Rattle.block.specs.Block.{Placed}
use Rattle.joined.specs.Joined.{JoinedIs}
use Rattle.conflict.specs.Conflict.{label_bytes, destination_bytes, title_bytes, HasTitle, entry}
use Rattle.notice.specs.Answers as reader
use Rattle.notice.specs.Reading as reader_readings
use Rattle.rendering.specs.Answers.{Rendering}
use Rattle.rendering.specs.Answers as writer
use Rattle.rendering.specs.Reading as writer_readings
use Rattle.release.specs.Old as old

-- "With no, all old answers hold." The calls give what stands on the left of each line, by their promises.
pub record WithNo (T : Texts) : Type 0 where
  pub reading : (definition_rows rows_of_spans : ℕ) → reader_readings.reading_of false T definition_rows rows_of_spans ≡ old.reading_of T definition_rows rows_of_spans
  pub rendering : (definition_rows rows_of_spans room : ℕ) → writer_readings.rendering_of false T definition_rows rows_of_spans room ≡ old.rendering_of T definition_rows rows_of_spans room
  -- none of them has a number past 6
  pub reading_number : (definition_rows rows_of_spans : ℕ) → reader.number_of (old.reading_of T definition_rows rows_of_spans) ≤ 6
  pub rendering_number : (definition_rows rows_of_spans room : ℕ) → writer.number_of (old.rendering_of T definition_rows rows_of_spans room) ≤ 6
  -- what was lent holds after each what it held
  pub table_of_definitions : (number : ℕ) (t : List ℕ) → reader_readings.definition_table_of T number t ≡ old.definition_table_of T number t
  pub span_table : (number : ℕ) (u : List ℕ) → number ≤ 6 → reader_readings.span_table_of T number u ≡ old.span_table_of T number u
  pub page_buffer : (r : Rendering) (p : List ℕ) → writer_readings.page_buffer_of T r p ≡ old.page_buffer_of T (writer.number_of r) p
  -- in the law's terms: 9 is never due, and what is asked beside it for the other answers always holds
  pub passes : reader.Passes false T
  pub never : reader.SomeConflict false T → ⊥

-- With yes the answer is refusal 9, or the one with no.
pub record WithYes (T : Texts) : Type 0 where
  pub reading : (definition_rows rows_of_spans : ℕ) → let r = reader_readings.reading_of true T definition_rows rows_of_spans in
      (reader.number_of r ≡ 9) ⊎ (r ≡ reader_readings.reading_of false T definition_rows rows_of_spans)
  pub rendering : (definition_rows rows_of_spans room : ℕ) → let r = writer_readings.rendering_of true T definition_rows rows_of_spans room in
      (writer.number_of r ≡ 9) ⊎ (r ≡ writer_readings.rendering_of false T definition_rows rows_of_spans room)

-- The setting changes nothing.
pub record Alike (T : Texts) : Type 0 where
  pub reading : (definition_rows rows_of_spans : ℕ) → reader_readings.reading_of true T definition_rows rows_of_spans ≡ reader_readings.reading_of false T definition_rows rows_of_spans
  pub rendering : (definition_rows rows_of_spans room : ℕ)
      → writer_readings.rendering_of true T definition_rows rows_of_spans room ≡ writer_readings.rendering_of false T definition_rows rows_of_spans room

-- two definitions say the same: whichever of them a reader takes, it opens the same
pub record SameTarget (T : Texts) (a b : Listed) : Type 0 where
  pub destination : destination_bytes T a ≡ destination_bytes T b
  pub title : title_bytes T a ≡ title_bytes T b
  pub presence : HasTitle a ↔ HasTitle b

-- any two definitions of equal labels do
abbrev pub Settled : List Listed → Texts → Type 0
Settled list T = (i k : ℕ) → i < k → k < length list → Equal (label_bytes T (entry list i)) (label_bytes T (entry list k)) → SameTarget T (entry list i) (entry list k)

-- list is the joined list
pub record ReleaseClaims (T : Texts) : Type 0 where
  pub with_no : WithNo T
  pub with_yes : WithYes T
  -- "Identical repeats still pass."
  pub identical : (list : List Listed) (paragraphs : List Placed) → JoinedIs T list paragraphs → Settled list T → Alike T
  -- a release that is read or rendered opens the same by every definition of a label
  pub settled_read : (definition_rows rows_of_spans : ℕ) → reader.number_of (reader_readings.reading_of true T definition_rows rows_of_spans) ≡ 0
      → (list : List Listed) (paragraphs : List Placed) → JoinedIs T list paragraphs → Settled list T
  pub settled_rendered : (definition_rows rows_of_spans room : ℕ) → writer.number_of (writer_readings.rendering_of true T definition_rows rows_of_spans room) ≡ 0
      → (list : List Listed) (paragraphs : List Placed) → JoinedIs T list paragraphs → Settled list T
