-- The joined list of two texts: the note's definitions, then the sheet's, each with the text in which it stands. Document 02, request 1.
use Rattle.std.specs.Prelude.{ℕ, ◌≡◌, List, ◌++◌, map}
use Rattle.texts.specs.Texts.{Texts, note_number, sheet_number}
use Rattle.block.specs.Block.{Placed}
use Rattle.row.specs.declared.Definition.{Definition}
use Rattle.row.specs.Row.{Listed, listed}
use Rattle.definition.specs.Note.{NoteIs}

-- these definitions, each with the number of its text
abbrev pub listed_in : ℕ → List Definition → List Listed
listed_in k = map (listed k)

-- "the note's definitions first, then the sheet's", "in note order, repeats too"
abbrev pub join : List Definition → List Definition → List Listed
join note sheet = listed_in note_number note ++ listed_in sheet_number sheet

-- js is the joined list of the texts T, and ps are the paragraphs: the note's. Of the sheet, "Its own paragraphs are ignored."
pub record JoinedIs (T : Texts) (js : List Listed) (ps : List Placed) : Type 0 where
  pub note_definitions : List Definition
  pub note_is : NoteIs T.note note_definitions ps
  pub sheet_definitions : List Definition
  pub sheet_paragraphs : List Placed
  pub sheet_is : NoteIs T.sheet sheet_definitions sheet_paragraphs
  pub joins : js ≡ join note_definitions sheet_definitions
