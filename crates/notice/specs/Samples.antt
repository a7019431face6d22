-- The reader's answers by computation, with what both tables hold before and after: the whole example of document 01, each refusal, and their order, for a release or not.
use Rattle.std.specs.Prelude.{ℕ, ◌≡◌, refl, List, [], ◌∷◌, ◌++◌, map, Bool, true, false, replicate, Ok, Err}
use Rattle.std.proofs.Math.Option.{none}
use Rattle.scan.specs.Ascii.{ascii}
use Rattle.line.specs.Line.{feeds, line_of}
use Rattle.scan.specs.Reading.{scan as scan_bytes, run, past, leap, closing_step, closing}
use Rattle.text.specs.Utf8.{table}
use Rattle.text.specs.Sequences.{ones_from, leading_ones, sequence_length, characters}
use Rattle.texts.specs.Texts.{Texts, texts}
use Rattle.texts.specs.Reading as both
use Rattle.text.specs.Reading.{row_for, starts, character_length, good_length, first_bad_past, first_bad, check_of}
use Rattle.label.specs.Reading.{inky, fits_after, fits, label_end, unclosed, is_label}
use Rattle.target.specs.Reading.{space_from, depth_after, raw_step, raw_run, judged, destination_of, closer, title_of}
use Rattle.matching.specs.Reading.{lower, pair, code_of, folds_from, spaced, squeeze, compared, equals, matches}
use Rattle.marking.specs.ReadingSpans.{spans, finish, scan, scan_step, scan_found, scan_start, over, overs, over_within}
use Rattle.block.specs.Reading.{blank_line, line_length, block_rest, block_length, part_length, block_here, blocks}
use Rattle.rows.specs.Rows.{rows, filled}
use Rattle.row.specs.Row as definition_table
use Rattle.row.specs.Row.{range, absent, definition, listed}
use Rattle.row.specs.Reading.{match_from}
use Rattle.definition.specs.Reading as reading
use Rattle.definition.specs.Reading.{definitions, paragraphs}
use Rattle.span.specs.Row as span_table
use Rattle.inline.specs.ReadingPieces.{count_after, run_step, run_done, closing_run, piece_from}
use Rattle.inline.specs.Reading.{grammar}
use Rattle.inline.specs.ReadingTails.{closed_at, after_destination, inline_of, label_after, text_tail, tail_of}
use Rattle.note.specs.Note.{depth_limit}
use Rattle.joined.specs.Reading.{joined}
use Rattle.conflict.specs.Reading.{differ, differs_from, conflict_from, first_conflict}
use Rattle.note.specs.Samples.{brackets, openings, alone, parts_of}
use Rattle.note.specs.Reading.{labels, rows_in, span_rows, deep_in, first_deep}
use Rattle.notice.specs.declared.Refusal.{Refusal}
use Rattle.notice.specs.declared.Refusal.TheVariants.{Long, Bad, FewDefinitions, Conflicting, Deep, FewSpans}
use Rattle.notice.specs.Answers.{Reading, counts, number_of}
use Rattle.notice.specs.Reading.{reading_of, definition_table_of, span_table_of}

pub record Sample : Type 0 where
  pub release : Bool
  pub texts : Texts
  -- the tables that are lent
  pub definitions_lent : List ℕ
  pub spans_lent : List ℕ
  pub answer : Reading
  -- the tables after the call
  pub definitions_left : List ℕ
  pub spans_left : List ℕ

abbrev pub given : Bool → Texts → List ℕ → List ℕ → Reading → List ℕ → List ℕ → Sample
given release T t u r t' u' = record { release = release; texts = T; definitions_lent = t; spans_lent = u; answer = r; definitions_left = t'; spans_left = u' }

-- not for a release
abbrev pub beside : Texts → List ℕ → List ℕ → Reading → List ℕ → List ℕ → Sample
beside = given false

-- for a release, where the span table is left as it was
abbrev released : Texts → List ℕ → List ℕ → Reading → List ℕ → Sample
released T t u r t' = given true T t u r t' u

-- a note with an empty sheet
abbrev pub sample : List ℕ → List ℕ → List ℕ → Reading → List ℕ → List ℕ → Sample
sample s = beside (alone s)

-- both tables are left as they were
abbrev unchanged : List ℕ → List ℕ → List ℕ → Reading → Sample
unchanged s t u r = sample s t u r t u

-- the same with a sheet
abbrev unchanged_beside : List ℕ → List ℕ → List ℕ → List ℕ → Reading → Sample
unchanged_beside sheet s t u r = beside (texts s sheet) t u r t u

-- a table of so many numbers, before the call
abbrev pub lent : ℕ → List ℕ
lent n = replicate n 9

-- "Whole example, 34 bytes"
abbrev whole_example : List ℕ
whole_example = ascii "[max]: /q2/max \"June\"\n\nUse [max].\n"

-- "Definition row 1 4 7 14 16 20. Span row 5 27 32 28 31 1 7 14 16 20." It "gains 1 on its definition row and 3 on its span row", and a leading 0.
abbrev definition_row : List ℕ
definition_row = 0 ∷ 1 ∷ 4 ∷ 7 ∷ 14 ∷ 16 ∷ 20 ∷ 1 ∷ []

abbrev span_row : List ℕ
span_row = 5 ∷ 27 ∷ 32 ∷ 28 ∷ 31 ∷ 1 ∷ 7 ∷ 14 ∷ 16 ∷ 20 ∷ 3 ∷ []

-- one label, another destination in the sheet; and the rows of both
abbrev conflicting : Texts
conflicting = texts (ascii "[a]: /1\n\n[a]") (ascii "[a]: /2")

abbrev conflicting_rows : List ℕ
conflicting_rows = 0 ∷ 1 ∷ 2 ∷ 5 ∷ 7 ∷ 0 ∷ 0 ∷ 1 ∷ 1 ∷ 1 ∷ 2 ∷ 5 ∷ 7 ∷ 0 ∷ 0 ∷ 1 ∷ []

-- a definition, a paragraph with a code span, and one with too many brackets open
abbrev pub deep : List ℕ
deep = ascii "[a]: b\n\n`c`\n\n" ++ brackets 1025

abbrev pub samples : List Sample
samples =
    -- exactly the rows needed; then part of a row more, and rows more
    sample whole_example (lent 8) (lent 11) (Ok (counts 1 1)) definition_row span_row
    ∷ sample whole_example (lent 15) (lent 21) (Ok (counts 1 1)) (definition_row ++ lent 7) (span_row ++ lent 10)
    ∷ sample whole_example (lent 16) (lent 22) (Ok (counts 1 1)) (definition_row ++ lent 8) (span_row ++ lent 11)
    ∷ unchanged [] [] [] (Ok (counts 0 0))
    -- the rows needed, where fewer whole rows are lent
    ∷ unchanged whole_example (lent 7) (lent 11) (Err (FewDefinitions 1))
    ∷ sample whole_example (lent 8) (lent 10) (Err (FewSpans 1)) definition_row (lent 10)
    ∷ unchanged (ascii "[a]: b\n[a]: c") (lent 15) [] (Err (FewDefinitions 2))
    ∷ unchanged (ascii "`a` `b`") [] (lent 21) (Err (FewSpans 2))
    -- its length, whatever the bytes
    ∷ unchanged (replicate 32769 0) [] [] (Err (Long 0 32769))
    -- bytes 0 and 13, and ill-formed UTF-8
    ∷ unchanged (ascii "a" ++ 0 ∷ []) [] [] (Err (Bad 0 1))
    ∷ unchanged (ascii "ab" ++ 13 ∷ 10 ∷ []) [] [] (Err (Bad 0 2))
    ∷ unchanged (195 ∷ 169 ∷ 237 ∷ 160 ∷ 128 ∷ []) [] [] (Err (Bad 0 2))
    -- "The first that applies, in order 1 to 6, is the answer"
    ∷ unchanged (whole_example ++ 13 ∷ []) [] [] (Err (Bad 0 34))
    ∷ unchanged whole_example [] [] (Err (FewDefinitions 1))
    ∷ unchanged deep (lent 7) [] (Err (FewDefinitions 1))
    -- with a sheet: its definition, and places in it
    ∷ beside (texts (ascii "Use [max].") (ascii "[max]: /q2")) (lent 8) (lent 11) (Ok (counts 1 1)) (1 ∷ 1 ∷ 4 ∷ 7 ∷ 10 ∷ 0 ∷ 0 ∷ 1 ∷ []) (5 ∷ 4 ∷ 9 ∷ 5 ∷ 8 ∷ 1 ∷ 7 ∷ 10 ∷ 0 ∷ 0 ∷ 1 ∷ [])
    -- "Refusal 3 counts both."
    ∷ unchanged_beside (ascii "[a]: c") (ascii "[a]: b") (lent 15) [] (Err (FewDefinitions 2))
    -- "refusals 1 and 2 are checked on the note, then both on the sheet, and say which text"
    ∷ unchanged_beside (ascii "a" ++ 0 ∷ []) (ascii "b") [] [] (Err (Bad 1 1))
    ∷ unchanged_beside (replicate 32769 97) (ascii "b") [] [] (Err (Long 1 32769))
    ∷ unchanged_beside (replicate 32769 97) (ascii "bc" ++ 13 ∷ []) [] [] (Err (Bad 0 2))
    -- its paragraphs are ignored, and so are the brackets that are open in it
    ∷ unchanged_beside (ascii "`a`\n\n" ++ brackets 1025) (ascii "b") [] [] (Ok (counts 0 0))
    -- "With yes, refusal 9", "the row number, from 1": P12, and one label in each text; "With no, all old answers hold."
    ∷ released (alone (ascii "[foo]\n\n[foo]: first\n[foo]: second")) (lent 16) (lent 11) (Err (Conflicting 2)) (0 ∷ 8 ∷ 11 ∷ 14 ∷ 19 ∷ 0 ∷ 0 ∷ 3 ∷ 0 ∷ 21 ∷ 24 ∷ 27 ∷ 33 ∷ 0 ∷ 0 ∷ 4 ∷ [])
    ∷ released conflicting (lent 17) (lent 11) (Err (Conflicting 2)) (conflicting_rows ++ lent 1)
    ∷ beside conflicting (lent 16) (lent 11) (Ok (counts 2 1)) conflicting_rows (5 ∷ 9 ∷ 12 ∷ 10 ∷ 11 ∷ 1 ∷ 5 ∷ 7 ∷ 0 ∷ 0 ∷ 3 ∷ [])
    -- "Checked after 3", and before 5
    ∷ released conflicting (lent 15) (lent 11) (Err (FewDefinitions 2)) (lent 15)
    ∷ released conflicting (lent 16) [] (Err (Conflicting 2)) conflicting_rows
    -- "Identical repeats still pass."
    ∷ released (texts (ascii "[a]: /1") (ascii "[A]: </1>")) (lent 16) (lent 2) (Ok (counts 2 0)) (0 ∷ 1 ∷ 2 ∷ 5 ∷ 7 ∷ 0 ∷ 0 ∷ 1 ∷ 1 ∷ 1 ∷ 2 ∷ 6 ∷ 8 ∷ 0 ∷ 0 ∷ 1 ∷ [])
    ∷ []

-- as many brackets open as may be, and one more; and the latter before too few span rows
abbrev pub edges : List Sample
edges =
    unchanged (brackets 1024) [] [] (Ok (counts 0 0))
    ∷ unchanged (brackets 1025) [] [] (Err (Deep 1024))
    ∷ sample deep (lent 8) [] (Err (Deep 1037)) (0 ∷ 1 ∷ 2 ∷ 5 ∷ 6 ∷ 0 ∷ 0 ∷ 1 ∷ []) []
    ∷ []

-- the same texts and tables lent, as they are answered
abbrev answered : Bool → Texts → List ℕ → List ℕ → Reading → Sample
answered release T t u r = given release T t u r (definition_table_of T (number_of r) t) (span_table_of T (number_of r) u)

abbrev pub read_one : Sample → Sample
read_one x =
    answered x.release x.texts x.definitions_lent x.spans_lent
    (reading_of x.release x.texts (definition_table.whole_rows x.definitions_lent) (span_table.whole_rows x.spans_lent))

abbrev pub Hold : List Sample → Type 0
Hold xs = map read_one xs ≡ xs

-- what is computed; `Hold edges` follows, since what is read of opening brackets alone is known
pub record Computed : Type 0 where
  pub answers : Hold samples
  pub good_1024 : both.check_of (alone (brackets 1024)) ≡ Ok tt
  pub good_1025 : both.check_of (alone (brackets 1025)) ≡ Ok tt
  pub good_deep : both.check_of (alone deep) ≡ Ok tt
  pub deep_parts : parts_of deep ≡ (listed 0 (definition (range 1 2) (range 5 6) absent) ∷ [], record { at = 8; bytes = ascii "`c`" } ∷ openings 13 1025 ∷ [])
  pub shallow_first : over depth_limit (grammar (ascii "`c`") (ascii "a" ∷ [])) ≡ none

pub samples_hold : Computed
unfolding feeds line_of scan_bytes run past leap closing_step closing table ones_from leading_ones sequence_length characters row_for starts character_length good_length first_bad_past first_bad check_of both.check_of joined
    inky fits_after fits label_end unclosed is_label space_from depth_after raw_step raw_run judged destination_of closer title_of lower pair code_of folds_from spaced squeeze compared equals matches
    spans finish scan scan_step scan_found scan_start over overs over_within blank_line line_length block_rest block_length part_length block_here blocks rows filled match_from
    reading.line_after reading.title_after reading.ending_after reading.after_label reading.after_indent reading.definition_at reading.taking_from reading.definitions_from
    reading.paragraph_end reading.paragraph_from reading.definitions_of reading.paragraph_of reading.definitions_in reading.paragraphs_in definitions paragraphs
    count_after run_step run_done closing_run piece_from closed_at after_destination inline_of label_after text_tail tail_of labels rows_in span_rows deep_in first_deep differ differs_from conflict_from first_conflict reading_of
samples_hold = record { answers = refl; good_1024 = refl; good_1025 = refl; good_deep = refl; deep_parts = refl; shallow_first = refl }
