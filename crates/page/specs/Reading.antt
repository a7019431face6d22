-- The page of a note, from the two texts, the joined list, the paragraphs and the span rows alone: over the bytes of each paragraph, by the row that stands there.
use Rattle.std.specs.Prelude.{ℕ, zero, suc, ◌+◌, ◌-◌, ◌≡◌, Bool, true, false, cond, not, ◌&&◌, get_or, drop, eqb, leb, ltb}
use Rattle.std.proofs.Math.Option.{Option, none, some}
use mathlib.Core.List.{List, [], ◌∷◌, ◌++◌, flat_map}
use Rattle.texts.specs.Texts.{Texts}
use Rattle.block.specs.Block.{Placed}
use Rattle.row.specs.declared.Range.{Range}
use Rattle.row.specs.Row.{range, Listed}
use Rattle.row.specs.First.{bytes_of, named_text}
use Rattle.definition.specs.Reading.{paragraphs}
use Rattle.joined.specs.Reading.{joined}
use Rattle.span.specs.Row.{code_span_kind, inline_image_kind}
use Rattle.inline.specs.Rows.{row_end}
use Rattle.note.specs.Reading.{span_rows}
use Rattle.escaping.specs.Escaping.{escaped}
use Rattle.html.specs.Tags.{link_close, paragraph_open, paragraph_close}
use Rattle.escaping.specs.Reading.{backslash}
use Rattle.code.specs.Reading.{code_element}
use Rattle.html.specs.Reading.{link_open, image_open, image_close}
use Rattle.page.specs.Page.{tag_if}

-- ---- the numbers of a row
abbrev pub is_code : List ℕ → Bool
is_code r = eqb (get_or r 0 0) code_span_kind

abbrev pub is_image : List ℕ → Bool
is_image r = leb inline_image_kind (get_or r 0 0)

abbrev pub row_start : List ℕ → ℕ
row_start r = get_or r 1 0

abbrev pub text_start : List ℕ → ℕ
text_start r = get_or r 3 0

abbrev pub text_end : List ℕ → ℕ
text_end r = get_or r 4 0

abbrev pub text : List ℕ → Range
text r = range (text_start r) (text_end r)

abbrev pub destination : List ℕ → Range
destination r = range (get_or r 6 0) (get_or r 7 0)

abbrev pub title : List ℕ → Range
title r = range (get_or r 8 0) (get_or r 9 0)

-- the text in which the destination and the title lie
abbrev pub target_text : Texts → List Listed → List ℕ → List ℕ
target_text T js r = named_text T js (get_or r 5 0)

-- what stands before the text of a link or the description of an image, and after it
abbrev pub open_tag : Texts → List Listed → List ℕ → List ℕ
open_tag T js r =
    cond (is_image r) (image_open (bytes_of (target_text T js r) (destination r))) (link_open (bytes_of (target_text T js r) (destination r)) (bytes_of (target_text T js r) (title r)))

abbrev pub close_tag : Texts → List Listed → List ℕ → List ℕ
close_tag T js r = cond (is_image r) (image_close (bytes_of (target_text T js r) (title r))) link_close

-- ---- the row that stands at a place of the note
unfoldable pub first_row : (List ℕ → Bool) → List (List ℕ) → Option (List ℕ)
first_row test [] = none
first_row test (r ∷ rows) = elim (test r) [ true ↦ some r | false ↦ first_row test rows ]

-- a row starts there; the text of a link or an image ends there
abbrev pub starts : ℕ → List ℕ → Bool
starts at r = eqb (row_start r) at

abbrev pub closes : ℕ → List ℕ → Bool
closes at r = not (is_code r) && eqb (text_end r) at

-- the row r starts in the description of the image whose row is d
abbrev pub describes : List ℕ → List ℕ → Bool
describes r d = is_image d && leb (text_start d) (row_start r) && ltb (row_start r) (text_end d)

abbrev pub is_none : Option (List ℕ) → Bool
is_none none = true
is_none (some r) = false

-- whether tags are written for the row r: it starts in no image's description
unfoldable pub tagged : List (List ℕ) → List ℕ → Bool
tagged rows r = is_none (first_row (describes r) rows)

-- ---- what is written at a place
-- how many bytes of the note it stands for, and what is written for them
pub record Written : Type 0 where
  pub size : ℕ
  pub bytes : List ℕ

abbrev written : ℕ → List ℕ → Written
written n w = record { size = n; bytes = w }

-- an escape or a byte, at the front of what is left of the paragraph
abbrev pub unit : List ℕ → Written
unit l = written (backslash l + 1) (escaped (get_or l (backslash l) 0))

-- at the start of the row r, by whether tags are written for it
abbrev pub started : Texts → List Listed → Bool → List ℕ → Written
started T js tags r =
    cond (is_code r) (written (row_end r - row_start r) (code_element tags (bytes_of T.note (text r))))
    (written (text_start r - row_start r) (tag_if tags (open_tag T js r)))

-- where its text ends
abbrev pub closed : Texts → List Listed → Bool → List ℕ → Written
closed T js tags r = written (row_end r - text_end r) (tag_if tags (close_tag T js r))

module _ (T : Texts) (js : List Listed) (rows : List (List ℕ)) where
  -- by the row that starts there, and the row whose text ends there
  unfoldable pub written_by : Option (List ℕ) → Option (List ℕ) → List ℕ → Written
  written_by (some r) c l = started T js (tagged rows r) r
  written_by none (some r) l = closed T js (tagged rows r) r
  written_by none none l = unit l

  abbrev pub written_at : List ℕ → ℕ → Written
  written_at l at = written_by (first_row (starts at) rows) (first_row (closes at) rows) l

  -- what is left of a paragraph, from place `at` of the note on, after the next k bytes
  unfoldable pub content_from : ℕ → List ℕ → ℕ → List ℕ
  content_from k [] at = []
  content_from zero (b ∷ l) at = let x = written_at (b ∷ l) at in x.bytes ++ content_from (x.size - 1) l (at + 1)
  content_from (suc k) (b ∷ l) at = content_from k l (at + 1)

  unfoldable pub paragraph_page : Placed → List ℕ
  paragraph_page q = paragraph_open ++ content_from 0 q.bytes q.at ++ paragraph_close

-- ---- at a place of the paragraph p, which starts at place `off` of the note
module _ (T : Texts) (js : List Listed) (rows : List (List ℕ)) (p : List ℕ) (off : ℕ) where
  -- the page of the paragraph from its place a on
  abbrev pub from : ℕ → List ℕ
  from a = content_from T js rows 0 (drop a p) (off + a)

  -- what is written there
  abbrev pub here : ℕ → Written
  here a = written_at T js rows (drop a p) (off + a)

  -- no row stands there
  pub record Bare (a : ℕ) : Type 0 where
    pub no_start : first_row (starts (off + a)) rows ≡ none
    pub no_close : first_row (closes (off + a)) rows ≡ none

-- ---- the page
-- the page that these rows and paragraphs of the note call for
unfoldable pub page_by : Texts → List Listed → List Placed → List (List ℕ) → List ℕ
page_by T js ps rows = flat_map (paragraph_page T js rows) ps

unfoldable pub page_of : Texts → List ℕ
page_of T = page_by T (joined T) (paragraphs T.note) (span_rows T)
