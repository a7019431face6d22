-- A note alone: its rows, its first bracket too many and its page, by definitions that speak of one text, as they were before a sheet was lent beside it.
use Rattle.std.specs.Prelude.{ℕ, zero, suc, ◌+◌, ◌-◌, Bool, cond}
use Rattle.std.proofs.Math.Option.{Option, none, some}
use mathlib.Core.List.{List, [], ◌∷◌, ◌++◌, flat_map}
use Rattle.line.specs.Line.{line_of}
use Rattle.block.specs.Block.{Placed}
use Rattle.row.specs.declared.Definition.{Definition}
use Rattle.row.specs.Row.{opening}
use Rattle.row.specs.First.{bytes_of}
use Rattle.definition.specs.Reading.{definitions, paragraphs}
use Rattle.inline.specs.Rows.{row_end}
use Rattle.note.specs.Reading.{rows_in, deep_in}
use Rattle.enquiry.specs.Answers.{own_labels}
use Rattle.code.specs.Reading.{code_element}
use Rattle.html.specs.Tags.{link_close, paragraph_open, paragraph_close}
use Rattle.html.specs.Reading.{link_open, image_open, image_close}
use Rattle.page.specs.Page.{tag_if}
use Rattle.page.specs.Reading.{is_code, is_image, row_start, text_start, text_end, text, destination, title, first_row, starts, closes, tagged, Written, unit}

-- ---- rows
-- the row of a definition, seven numbers: "label start and end (inside the brackets), destination start and end, title start and end", and the line
abbrev pub numbers : List ℕ → Definition → List ℕ
numbers s d =
    d.label.start ∷ d.label.end ∷ d.destination.start ∷ d.destination.end ∷ d.title.start ∷ d.title.end ∷ line_of s (opening d) ∷ []

abbrev pub labels : List ℕ → List (List ℕ)
labels s = own_labels s (definitions s)

unfoldable pub span_rows : List ℕ → List (List ℕ)
span_rows s = rows_in s (labels s) (definitions s) (paragraphs s)

unfoldable pub first_deep : List ℕ → Option ℕ
first_deep s = deep_in (labels s) (paragraphs s)

-- ---- the page: every destination and title is a part of the note
-- what stands before the text of a link or the description of an image, and after it
abbrev pub open_tag : List ℕ → List ℕ → List ℕ
open_tag s r = cond (is_image r) (image_open (bytes_of s (destination r))) (link_open (bytes_of s (destination r)) (bytes_of s (title r)))

abbrev pub close_tag : List ℕ → List ℕ → List ℕ
close_tag s r = cond (is_image r) (image_close (bytes_of s (title r))) link_close

-- what is written at the start of the row r, by whether tags are written for it, and where its text ends
abbrev pub started : List ℕ → Bool → List ℕ → Written
started s tags r =
    cond (is_code r) (record { size = row_end r - row_start r; bytes = code_element tags (bytes_of s (text r)) })
    (record { size = text_start r - row_start r; bytes = tag_if tags (open_tag s r) })

abbrev pub closed : List ℕ → Bool → List ℕ → Written
closed s tags r = record { size = row_end r - text_end r; bytes = tag_if tags (close_tag s r) }

module _ (s : List ℕ) (rows : List (List ℕ)) where
  -- by the row that starts there, and the row whose text ends there
  unfoldable pub written_by : Option (List ℕ) → Option (List ℕ) → List ℕ → Written
  written_by (some r) c l = started s (tagged rows r) r
  written_by none (some r) l = closed s (tagged rows r) r
  written_by none none l = unit l

  abbrev pub written_at : List ℕ → ℕ → Written
  written_at l at = written_by (first_row (starts at) rows) (first_row (closes at) rows) l

  -- what is left of a paragraph, from place `at` of the note on, after the next k bytes
  unfoldable pub content_from : ℕ → List ℕ → ℕ → List ℕ
  content_from k [] at = []
  content_from zero (b ∷ l) at = let x = written_at (b ∷ l) at in x.bytes ++ content_from (x.size - 1) l (at + 1)
  content_from (suc k) (b ∷ l) at = content_from k l (at + 1)

  unfoldable pub paragraph_page : Placed → List ℕ
  paragraph_page q = paragraph_open ++ content_from 0 q.bytes q.at ++ paragraph_close

unfoldable pub page_of : List ℕ → List ℕ
page_of s = flat_map (paragraph_page s (span_rows s)) (paragraphs s)
