-- The row of a span: document 01, "Rows", and document 02, request 5.
use Rattle.std.specs.Prelude.{ℕ, suc, ◌+◌, ◌<◌, ◌≡◌, get_or}
use Rattle.std.proofs.Math.Option.{Option, none, some}
use mathlib.Core.List.{List, Forall₂}
use Rattle.std.proofs.Math.ListN.{get_elem?}
use Rattle.marking.specs.Marking.{Sort, link, image, Piece, Marking}
use Rattle.marking.specs.Spans.{Span, code_span, pair_span, SpansAre}
use Rattle.row.specs.declared.Range.{Range}
use Rattle.row.specs.declared.Definition.{Definition}
use Rattle.row.specs.Row.{range, absent}
use Rattle.span.specs.declared.Span as row
use Rattle.span.specs.Row.{numbers, definition_number, code_span_row, inline_row, full_row, collapsed_row, shortcut_row, inline_image_row, full_image_row, collapsed_image_row, shortcut_image_row}
use Rattle.inline.specs.Pieces.{Backticks}
use Rattle.inline.specs.Tails.{Tail, inline, full, collapsed, shortcut, length_of}
use Rattle.inline.specs.Paragraph.{rules}

-- "A span runs from its opening bracket or backtick to the end of its tail or closing backticks." "An image's span starts at its `!`"
abbrev pub whole_of : Span Tail → Range
whole_of (code_span q) = range q.start q.end
whole_of (pair_span x o c t) = range o.start (c.end + length_of t)

-- "For a code span the text lies between the backtick strings": the second is as long as the first
pub record CodeText (p : List ℕ) (q : Piece) (text : Range) : Type 0 where
  pub count : ℕ
  pub opening_string : Backticks p q.start count
  pub from : text.start ≡ q.start + count
  pub to : text.end + count ≡ q.end

-- "for a link between its two brackets", and so for an image
abbrev pub link_text : Piece → Piece → Range
link_text o c = range o.end c.start

-- "places count from the note's start": the paragraph starts at place `offset` of the note
abbrev pub from_note : ℕ → Range → Range
from_note offset r = range (offset + r.start) (offset + r.end)

-- "An absent part is 0, 0."
abbrev pub from_note? : ℕ → Option Range → Range
from_note? offset none = absent
from_note? offset (some r) = from_note offset r

-- what a row says of the definition and the target of a link or an image
pub record Target : Type 0 where
  -- 0 if there is no definition
  pub number : ℕ
  pub destination : Range
  pub title : Range

-- "A reference's definition is the one that demand 2 names; its destination and title are that definition's."
abbrev pub defined : List Definition → ℕ → Target
defined ds k =
    let d : Definition = get_or ds k (record { label = absent; destination = absent; title = absent }) in
    record { number = definition_number k; destination = d.destination; title = d.title }

abbrev pub target_of : ℕ → List Definition → Span Tail → Target
target_of offset ds (code_span q) = record { number = 0; destination = absent; title = absent }
target_of offset ds (pair_span x o c (inline n d t)) = record { number = 0; destination = from_note? offset d; title = from_note? offset t }
target_of offset ds (pair_span x o c (full n k)) = defined ds k
target_of offset ds (pair_span x o c (collapsed k)) = defined ds k
target_of offset ds (pair_span x o c (shortcut k)) = defined ds k

-- ---- "kinds 6 inline, 7 full, 8 collapsed, 9 shortcut. .. the rest of its row is made as a link's": the rows of either sort
abbrev pub inline_row_of : Sort → Range → Range → Range → Range → row.Span
inline_row_of link = inline_row
inline_row_of image = inline_image_row

abbrev pub full_row_of : Sort → Range → Range → ℕ → Range → Range → row.Span
full_row_of link = full_row
full_row_of image = full_image_row

abbrev pub collapsed_row_of : Sort → Range → Range → ℕ → Range → Range → row.Span
collapsed_row_of link = collapsed_row
collapsed_row_of image = collapsed_image_row

abbrev pub shortcut_row_of : Sort → Range → Range → ℕ → Range → Range → row.Span
shortcut_row_of link = shortcut_row
shortcut_row_of image = shortcut_image_row

-- The row that is made of a code span, a link or an image of the paragraph p, at place `offset` of the note s, whose definitions are ds
module _ (s : List ℕ) (offset : ℕ) (p : List ℕ) (ds : List Definition) where
  abbrev whole_at : Span Tail → Range
  whole_at x = from_note offset (whole_of x)

  abbrev text_at : Piece → Piece → Range
  text_at o c = from_note offset (link_text o c)

  pub data RowIs : Span Tail → List ℕ → Type 0 where
    a_code_span : {q : Piece} {text : Range} → CodeText p q text → RowIs (code_span q) (numbers s (code_span_row (whole_at (code_span q)) (from_note offset text)))
    inline_one : {x : Sort} {o c : Piece} {n : ℕ} {d t : Option Range}
        → RowIs (pair_span x o c (inline n d t)) (numbers s (inline_row_of x (whole_at (pair_span x o c (inline n d t))) (text_at o c) (from_note? offset d) (from_note? offset t)))
    full_reference : {x : Sort} {o c : Piece} {n k : ℕ}
        → RowIs (pair_span x o c (full n k)) (numbers s (full_row_of x (whole_at (pair_span x o c (full n k))) (text_at o c) k (defined ds k).destination (defined ds k).title))
    collapsed_reference : {x : Sort} {o c : Piece} {k : ℕ}
        → RowIs (pair_span x o c (collapsed k)) (numbers s (collapsed_row_of x (whole_at (pair_span x o c (collapsed k))) (text_at o c) k (defined ds k).destination (defined ds k).title))
    shortcut_reference : {x : Sort} {o c : Piece} {k : ℕ}
        → RowIs (pair_span x o c (shortcut k)) (numbers s (shortcut_row_of x (whole_at (pair_span x o c (shortcut k))) (text_at o c) k (defined ds k).destination (defined ds k).title))

-- "the rows that this section makes of the links and code spans in the markings", and "the rows of demand 3 are those of the images of the markings too":
-- the rows of a paragraph at place `offset` of the note s
pub record RowsAre (s : List ℕ) (offset : ℕ) (p : List ℕ) (labels : List (List ℕ)) (ds : List Definition) (m : Marking Tail) (rows : List (List ℕ)) : Type 0 where
  pub spans : List (Span Tail)
  pub are : SpansAre (rules p labels) m spans
  pub made : Forall₂ (RowIs s offset p ds) spans rows

-- ---- the order of rows
abbrev pub row_end : List ℕ → ℕ
row_end row = get_or row 2 0

-- "Rows stand in increasing order of end."
abbrev pub EndsIncrease : List (List ℕ) → Type 0
EndsIncrease rows = (k : ℕ) (x y : List ℕ) → get_elem? rows k ≡ some x → get_elem? rows (suc k) ≡ some y → row_end x < row_end y
