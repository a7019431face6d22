-- A note alone, by computation: the whole example of document 01 as it is without a sheet, and the page of an image that holds a link and a code span.
use Rattle.std.specs.Prelude.{ℕ, ◌≡◌, refl}
use mathlib.Core.List.{List, [], ◌∷◌, map, flat_map}
use Rattle.scan.specs.Ascii.{ascii}
use Rattle.scan.specs.Reading.{scan as scan_bytes, run, past, leap, closing_step, closing}
use Rattle.line.specs.Line.{feeds, line_of}
use Rattle.text.specs.Sequences.{ones_from, leading_ones, sequence_length, characters}
use Rattle.label.specs.Reading.{inky, fits_after, fits, label_end, unclosed, is_label}
use Rattle.target.specs.Reading.{space_from, depth_after, raw_step, raw_run, judged, destination_of, closer, title_of}
use Rattle.matching.specs.Reading.{lower, pair, code_of, folds_from, spaced, squeeze, compared, equals, matches}
use Rattle.marking.specs.ReadingSpans.{spans, finish, scan, scan_step, scan_found, scan_start}
use Rattle.block.specs.Reading.{blank_line, line_length, block_rest, block_length, part_length, block_here, blocks}
use Rattle.row.specs.Reading.{match_from}
use Rattle.definition.specs.Reading as definition
use Rattle.definition.specs.Reading.{definitions, paragraphs}
use Rattle.inline.specs.ReadingPieces.{count_after, run_step, run_done, closing_run, piece_from}
use Rattle.inline.specs.ReadingTails.{closed_at, after_destination, inline_of, label_after, text_tail, tail_of}
use Rattle.note.specs.Reading.{rows_in}
use Rattle.escaping.specs.Escaping.{escaped}
use Rattle.href.specs.Href.{stays, hex_digit, href_byte}
use Rattle.escaping.specs.Reading.{undone}
use Rattle.code.specs.Reading.{margin}
use Rattle.html.specs.Reading.{title_attribute, link_open, image_open, image_close}
use Rattle.page.specs.Reading.{first_row, tagged}
use Rattle.sheet.specs.Alone.{numbers, span_rows, written_by, content_from, paragraph_page, page_of}

abbrev example : List ℕ
example = ascii "[max]: /q2/max \"June\"\n\nUse [max].\n"

pub record Examples : Type 0 where
  pub definition_rows : map (numbers example) (definitions example) ≡ (1 ∷ 4 ∷ 7 ∷ 14 ∷ 16 ∷ 20 ∷ 1 ∷ []) ∷ []
  pub rows_of_spans : span_rows example ≡ (5 ∷ 27 ∷ 32 ∷ 28 ∷ 31 ∷ 1 ∷ 7 ∷ 14 ∷ 16 ∷ 20 ∷ 3 ∷ []) ∷ []
  pub page : page_of example ≡ ascii "<p>Use <a href=\"/q2/max\" title=\"June\">max</a>.</p>\n"
  -- and of an image that holds a link and a code span
  pub picture_page : page_of (ascii "![[a](b)`c`](d 'T')") ≡ ascii "<p><img src=\"d\" alt=\"ac\" title=\"T\" /></p>\n"

pub examples : Examples
unfolding feeds line_of scan_bytes run past leap closing_step closing ones_from leading_ones sequence_length characters inky fits_after fits label_end unclosed is_label
    space_from depth_after raw_step raw_run judged destination_of closer title_of lower pair code_of folds_from spaced squeeze compared equals matches
    spans finish scan scan_step scan_found scan_start blank_line line_length block_rest block_length part_length block_here blocks match_from
    definition.line_after definition.title_after definition.ending_after definition.after_label definition.after_indent definition.definition_at definition.taking_from definition.definitions_from
    definition.paragraph_end definition.paragraph_from definition.definitions_of definition.paragraph_of definition.definitions_in definition.paragraphs_in definitions paragraphs
    count_after run_step run_done closing_run piece_from closed_at after_destination inline_of label_after text_tail tail_of rows_in span_rows
    flat_map escaped stays hex_digit href_byte undone margin title_attribute link_open image_open image_close first_row tagged written_by content_from paragraph_page page_of
examples = record { definition_rows = refl; rows_of_spans = refl; page = refl; picture_page = refl }
