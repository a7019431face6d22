-- The whole example of document 01, the empty note, an image, a sheet and a release, by computation: answers, tables and pages.
use Rattle.std.specs.Prelude.{ℕ, ◌≡◌, refl, Bool, true, false, length, replicate, Ok, Err}
use mathlib.Core.List.{List, [], ◌∷◌, ◌++◌, map, flat_map}
use Rattle.scan.specs.Ascii.{ascii}
use Rattle.line.specs.Line.{feeds, line_of}
use Rattle.scan.specs.Reading.{scan as scan_bytes, run, past, leap, closing_step, closing}
use Rattle.text.specs.Utf8.{table}
use Rattle.text.specs.Sequences.{ones_from, leading_ones, sequence_length, characters}
use Rattle.text.specs.Reading.{row_for, starts, character_length, good_length, first_bad_past, first_bad, check_of}
use Rattle.label.specs.Reading.{inky, fits_after, fits, label_end, unclosed, is_label}
use Rattle.target.specs.Reading.{space_from, depth_after, raw_step, raw_run, judged, destination_of, closer, title_of}
use Rattle.matching.specs.Reading.{lower, pair, code_of, folds_from, spaced, squeeze, compared, equals, matches}
use Rattle.marking.specs.ReadingSpans.{spans, over_within, overs, over, finish, scan, scan_step, scan_found, scan_start}
use Rattle.block.specs.Reading.{blank_line, line_length, block_rest, block_length, part_length, block_here, blocks}
use Rattle.rows.specs.Rows
use Rattle.row.specs.Row as definition_table
use Rattle.row.specs.Reading.{match_from}
use Rattle.definition.specs.Reading as definition
use Rattle.span.specs.Row as span_table
use Rattle.inline.specs.ReadingPieces.{count_after, run_step, run_done, closing_run, piece_from}
use Rattle.inline.specs.ReadingTails.{closed_at, after_destination, inline_of, label_after, text_tail, tail_of}
use Rattle.texts.specs.Texts.{Texts, texts}
use Rattle.texts.specs.Reading as both
use Rattle.joined.specs.Reading.{joined}
use Rattle.conflict.specs.Reading.{differ, differs_from, conflict_from, first_conflict}
use Rattle.note.specs.Reading.{labels, rows_in, span_rows, deep_in, first_deep}
use Rattle.escaping.specs.Escaping.{escaped}
use Rattle.href.specs.Href.{stays, hex_digit, href_byte}
use Rattle.escaping.specs.Reading.{undone}
use Rattle.code.specs.Reading.{margin}
use Rattle.html.specs.Reading.{title_attribute, link_open, image_open, image_close}
use Rattle.page.specs.Reading.{first_row, tagged, written_by, content_from, paragraph_page, page_by, page_of}
use Rattle.notice.specs.Reading.{reading_of, definition_table_of, span_table_of}
use Rattle.notice.specs.declared.Refusal.TheVariants.{Bad, FewDefinitions, Conflicting, FewSpans}
use Rattle.notice.specs.Answers.{counts}
use Rattle.rendering.specs.declared.Refusal.TheVariants.{Unread, ShortPage}
use Rattle.rendering.specs.Answers.{Rendering, written, number_of}
use Rattle.rendering.specs.Reading.{rendering_of, page_buffer_of}

-- the setting, the texts and what is lent; the answer, and what then stands in the tables and the page buffer
pub record Sample : Type 0 where
  pub release : Bool
  pub texts : Texts
  pub lent_definitions : List ℕ
  pub lent_spans : List ℕ
  pub lent_page : List ℕ
  pub answer : Rendering
  pub definitions : List ℕ
  pub spans : List ℕ
  pub page : List ℕ

-- n numbers that stand there before
abbrev old : ℕ → List ℕ
old n = replicate n 9

-- tables of a and b numbers and a page buffer of n bytes
abbrev given : Bool → Texts → ℕ → ℕ → ℕ → Rendering → List ℕ → List ℕ → List ℕ → Sample
given release T a b n r t u p =
    record { release = release; texts = T; lent_definitions = old a; lent_spans = old b; lent_page = old n; answer = r; definitions = t; spans = u; page = p }

-- not for a release
abbrev beside : Texts → ℕ → ℕ → ℕ → Rendering → List ℕ → List ℕ → List ℕ → Sample
beside = given false

-- a note with an empty sheet
abbrev sample : List ℕ → ℕ → ℕ → ℕ → Rendering → List ℕ → List ℕ → List ℕ → Sample
sample s = beside (texts s [])

-- "Whole example, 34 bytes"
abbrev example : List ℕ
example = ascii "[max]: /q2/max \"June\"\n\nUse [max].\n"

-- "Definition row 1 4 7 14 16 20.", and it gains 1, and a leading 0
abbrev definition_row : List ℕ
definition_row = 0 ∷ 1 ∷ 4 ∷ 7 ∷ 14 ∷ 16 ∷ 20 ∷ 1 ∷ []

-- "Span row 5 27 32 28 31 1 7 14 16 20.", and it gains 3
abbrev span_row : List ℕ
span_row = 5 ∷ 27 ∷ 32 ∷ 28 ∷ 31 ∷ 1 ∷ 7 ∷ 14 ∷ 16 ∷ 20 ∷ 3 ∷ []

-- "Page `<p>Use <a href="/q2/max" title="June">max</a>.</p>` and LF."
abbrev html : List ℕ
html = ascii "<p>Use <a href=\"/q2/max\" title=\"June\">max</a>.</p>\n"

-- the rows of `[a]: b` and, on the next line, `[a]: b ''`
abbrev titled : List ℕ
titled = 0 ∷ 1 ∷ 2 ∷ 5 ∷ 6 ∷ 0 ∷ 0 ∷ 1 ∷ 0 ∷ 8 ∷ 9 ∷ 12 ∷ 13 ∷ 15 ∷ 15 ∷ 2 ∷ []

abbrev pub samples : List Sample
samples =
    -- exactly as much as is needed; one byte less; one byte more
    sample example 8 11 51 (Ok (written (counts 1 1) 51)) definition_row span_row html
    ∷ sample example 8 11 50 (Err (ShortPage 51)) definition_row span_row (old 50)
    ∷ sample example 9 12 52 (Ok (written (counts 1 1) 51)) (definition_row ++ 9 ∷ []) (span_row ++ 9 ∷ []) (html ++ 9 ∷ [])
    -- refusals 3 and 5 come before 6
    ∷ sample example 7 10 0 (Err (Unread (FewDefinitions 1))) (old 7) (old 10) []
    ∷ sample example 8 10 0 (Err (Unread (FewSpans 1))) definition_row (old 10) []
    ∷ sample example 8 11 0 (Err (ShortPage 51)) definition_row span_row []
    -- the empty note with an empty page
    ∷ sample [] 0 0 0 (Ok (written (counts 0 0) 0)) [] [] []
    ∷ sample [] 1 1 1 (Ok (written (counts 0 0) 0)) (old 1) (old 1) (old 1)
    -- an image
    ∷ sample (ascii "![a](b)") 0 11 31 (Ok (written (counts 0 1) 31)) [] (6 ∷ 0 ∷ 7 ∷ 2 ∷ 3 ∷ 0 ∷ 5 ∷ 6 ∷ 0 ∷ 0 ∷ 1 ∷ []) (ascii "<p><img src=\"b\" alt=\"a\" /></p>\n")
    -- with the definition in the sheet: the same page
    ∷ beside (texts (ascii "Use [max].") (ascii "[max]: /q2/max \"June\"")) 8 11 51 (Ok (written (counts 1 1) 51)) (1 ∷ 1 ∷ 4 ∷ 7 ∷ 14 ∷ 16 ∷ 20 ∷ 1 ∷ [])
    (5 ∷ 4 ∷ 9 ∷ 5 ∷ 8 ∷ 1 ∷ 7 ∷ 14 ∷ 16 ∷ 20 ∷ 1 ∷ []) html
    -- the sheet refused
    ∷ beside (texts (ascii "a") (13 ∷ [])) 0 0 0 (Err (Unread (Bad 1 0))) [] [] []
    -- for a release, one label with and without a title: "definition table filled, span table and page unchanged"; and not for a release
    ∷ given true (texts (ascii "[a]: b\n[a]: b ''\n\n`c`") []) 16 11 21 (Err (Unread (Conflicting 2))) titled (old 11) (old 21)
    ∷ given false (texts (ascii "[a]: b\n[a]: b ''\n\n`c`") []) 16 11 22 (Ok (written (counts 2 1) 22)) titled (1 ∷ 18 ∷ 21 ∷ 19 ∷ 20 ∷ 0 ∷ 0 ∷ 0 ∷ 0 ∷ 0 ∷ 4 ∷ []) (ascii "<p><code>c</code></p>\n")
    -- for a release too, an identical repeat
    ∷ given true (texts (ascii "[a]: b\n\n[a]: b") []) 16 0 0 (Ok (written (counts 2 0) 0)) (0 ∷ 1 ∷ 2 ∷ 5 ∷ 6 ∷ 0 ∷ 0 ∷ 1 ∷ 0 ∷ 9 ∷ 10 ∷ 13 ∷ 14 ∷ 0 ∷ 0 ∷ 3 ∷ []) [] []
    ∷ []

abbrev answer_to : Sample → Rendering
answer_to x = rendering_of x.release x.texts (definition_table.whole_rows x.lent_definitions) (span_table.whole_rows x.lent_spans) (length x.lent_page)

-- the same texts with what was lent, as the page writer answers
abbrev pub rendered : Sample → Sample
rendered x =
    let r = answer_to x in
    record {
      release = x.release;
      texts = x.texts;
      lent_definitions = x.lent_definitions;
      lent_spans = x.lent_spans;
      lent_page = x.lent_page;
      answer = r;
      definitions = definition_table_of x.texts (number_of r) x.lent_definitions;
      spans = span_table_of x.texts (number_of r) x.lent_spans;
      page = page_buffer_of x.texts r x.lent_page;
    }

pub samples_hold : map rendered samples ≡ samples
unfolding feeds line_of scan_bytes run past leap closing_step closing ones_from leading_ones sequence_length characters table row_for starts character_length good_length first_bad_past first_bad check_of both.check_of joined
    inky fits_after fits label_end unclosed is_label space_from depth_after raw_step raw_run judged destination_of closer title_of lower pair code_of folds_from spaced squeeze compared equals matches
    spans over_within overs over finish scan scan_step scan_found scan_start blank_line line_length block_rest block_length part_length block_here blocks Rows.rows Rows.filled match_from
    definition.line_after definition.title_after definition.ending_after definition.after_label definition.after_indent definition.definition_at definition.taking_from definition.definitions_from
    definition.paragraph_end definition.paragraph_from definition.definitions_of definition.paragraph_of definition.definitions_in definition.paragraphs_in definition.definitions definition.paragraphs
    count_after run_step run_done closing_run piece_from closed_at after_destination inline_of label_after text_tail tail_of labels rows_in span_rows deep_in first_deep
    flat_map escaped stays hex_digit href_byte undone margin title_attribute link_open image_open image_close first_row tagged written_by content_from paragraph_page page_by page_of differ differs_from conflict_from first_conflict reading_of rendering_of
samples_hold = refl
