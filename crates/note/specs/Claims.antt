-- What is claimed of every note, for demands 2 and 3.
use Rattle.std.specs.Prelude.{ℕ, ◌+◌, ◌-◌, ◌≤◌, ◌≡◌, ◌↔◌, true, cond, List, [], ◌∷◌, length, get_or, take, drop}
use Rattle.std.proofs.Math.Option.{some}
use Rattle.std.proofs.Math.ListN.{get_elem?}
use Rattle.scan.specs.Member.{In}
use Rattle.line.specs.Line.{line_of}
use Rattle.marking.specs.Claims.{ExactlyOne}
use Rattle.texts.specs.Texts.{Texts, text_of}
use Rattle.block.specs.Block.{Placed}
use Rattle.row.specs.declared.Range.{Range}
use Rattle.row.specs.Row.{range, Listed}
use Rattle.row.specs.First.{bytes_of, labels_of, named_text, FirstEqual}
use Rattle.span.specs.Row.{width, is_full, is_reference, definition_number}
use Rattle.inline.specs.Paragraph.{rules}
use Rattle.inline.specs.Rows.{row_end}
use Rattle.note.specs.Note.{Marked, SpanRowsAre, EachRowOnce}

-- the note has markings, one for each paragraph, and no other list of markings; each paragraph has exactly one
pub record OneMarkingEach (T : Texts) : Type 0 where
  pub the_markings : Marked T
  pub no_others : (n : Marked T)
      → (n.list ≡ the_markings.list) × (n.paragraphs ≡ the_markings.paragraphs) × (n.markings ≡ the_markings.markings)
  pub each : (q : Placed) → In q the_markings.paragraphs → ExactlyOne (rules q.bytes (labels_of T the_markings.list))

-- A span row of the texts T with the joined list js has eleven numbers. The places of the span and its text are at most the note's length, those of its destination
-- and title at most the length of the text in which they lie; its definition number is at most the number of definitions, and its line is that of its start.
pub record RowFits (T : Texts) (js : List Listed) (row : List ℕ) : Type 0 where
  pub wide : length row ≡ width
  pub start : get_or row 1 0 ≤ get_or row 3 0
  pub text : get_or row 3 0 ≤ get_or row 4 0
  pub text_ends_at : get_or row 4 0 ≤ row_end row
  pub end : row_end row ≤ length T.note
  pub number : get_or row 5 0 ≤ length js
  pub destination_start : get_or row 6 0 ≤ length (named_text T js (get_or row 5 0))
  pub destination_end : get_or row 7 0 ≤ length (named_text T js (get_or row 5 0))
  pub title_start : get_or row 8 0 ≤ length (named_text T js (get_or row 5 0))
  pub title_end : get_or row 9 0 ≤ length (named_text T js (get_or row 5 0))
  pub line : get_or row 10 0 ≡ line_of T.note (get_or row 1 0)

-- where the label stands that a reference row was looked up by: between the second brackets of a full reference, else between the first
abbrev pub looked_up : List ℕ → Range
looked_up row = cond (is_full (get_or row 0 0)) (range (get_or row 4 0 + 2) (row_end row - 1)) (range (get_or row 3 0) (get_or row 4 0))

-- "Lookup takes the note's definitions first, then the sheet's, first equal label wins"; "A reference's definition is the one that demand 2 names; its destination
-- and title are that definition's." js is the joined list of the texts T.
pub record RefersTo (T : Texts) (js : List Listed) (row : List ℕ) : Type 0 where
  pub index : ℕ
  pub first_equal : FirstEqual (labels_of T js) (bytes_of T.note (looked_up row)) index
  pub entry : Listed
  pub is_there : get_elem? js index ≡ some entry
  pub number_is : get_or row 5 0 ≡ definition_number index
  pub target_is :
      take 4 (drop 6 row)
      ≡ entry.definition.destination.start ∷ entry.definition.destination.end ∷ entry.definition.title.start ∷ entry.definition.title.end ∷ []
  -- "A reference's destination and title places lie in the text that its definition row names"
  pub text_is : named_text T js (get_or row 5 0) ≡ text_of T entry.text

-- Demand 3 of the texts T: of "every note and sheet". "The link rules are stated as conditions on a finished marking of a paragraph": `Meets` and `rules`, cited by `Marked` and `ExactlyOne`.
pub record Demand3 (T : Texts) : Type 0 where
  -- "Exactly one marking of each paragraph meets them, for every well-formed note within the length limit, refused or not."
  pub one_marking_each : OneMarkingEach T
  -- "Span rows are those of the links and code spans of these markings, each once, no others, equal in every number, in order of end", and of their images
  pub rows : List (List ℕ)
  pub each_row_once : EachRowOnce T rows
  pub no_other_rows : (others : List (List ℕ)) → EachRowOnce T others → others ≡ rows
  pub each_at_one_place : (i j : ℕ) (row : List ℕ) → get_elem? rows i ≡ some row → get_elem? rows j ≡ some row → i ≡ j
  -- what follows: paragraph after paragraph they are the same rows
  pub by_paragraph : (others : List (List ℕ)) → EachRowOnce T others ↔ SpanRowsAre T others
  -- what stands in a row; of demand 2, what stands in a row of the kinds 3, 4 and 5, and, as its "list gains images", 7, 8 and 9
  pub fits : (n : Marked T) (row : List ℕ) → In row rows → RowFits T n.list row
  pub refers : (n : Marked T) (row : List ℕ) → In row rows → is_reference (get_or row 0 0) ≡ true → RefersTo T n.list row
