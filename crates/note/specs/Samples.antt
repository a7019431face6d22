-- "Samples on the bench": the notes P1 to P13 of document 01 with their definition rows and their span rows; beside them its whole example, a note
-- over many lines, notes with a sheet, notes with images, and notes with 1,024 and 1,025 brackets open.
use Rattle.std.specs.Prelude.{ℕ, zero, suc, ◌≡◌, refl, List, [], ◌∷◌, ◌++◌, map, replicate}
use Prim.Native.String.{String}
use Rattle.std.proofs.Math.Option.{none, some}
use Rattle.scan.specs.Ascii.{ascii}
use Rattle.line.specs.Line.{feeds, line_of}
use Rattle.scan.specs.Reading.{scan as scan_bytes, run, past, leap, closing_step, closing}
use Rattle.text.specs.Sequences.{ones_from, leading_ones, sequence_length, characters}
use Rattle.label.specs.Reading.{inky, fits_after, fits, label_end, unclosed, is_label}
use Rattle.target.specs.Reading.{space_from, depth_after, raw_step, raw_run, judged, destination_of, closer, title_of}
use Rattle.matching.specs.Reading.{lower, pair, code_of, folds_from, spaced, squeeze, compared, equals, matches}
use Rattle.marking.specs.Marking.{Sort, link, image}
use Rattle.marking.specs.ReadingSpans.{spans, finish, scan, scan_step, scan_found, scan_start, over, overs, over_within}
use Rattle.block.specs.Reading.{blank_line, line_length, block_rest, block_length, part_length, block_here, blocks}
use Rattle.block.specs.Block.{Placed}
use Rattle.texts.specs.Texts.{Texts, texts}
use Rattle.row.specs.Row.{Listed, numbers}
use Rattle.row.specs.Reading.{match_from}
use Rattle.definition.specs.Reading as definition
use Rattle.definition.specs.Reading.{definitions, paragraphs}
use Rattle.joined.specs.Reading.{joined}
use Rattle.inline.specs.ReadingPieces.{count_after, run_step, run_done, closing_run, piece_from}
use Rattle.inline.specs.ReadingTails.{closed_at, after_destination, inline_of, label_after, text_tail, tail_of}
use Rattle.note.specs.Reading.{labels, rows_in, span_rows, deep_in, first_deep}

pub record Sample : Type 0 where
  pub note : String
  pub sheet : String
  -- the definition rows, eight numbers each, and the span rows, eleven numbers each
  pub definition_rows : List (List ℕ)
  pub rows_of_spans : List (List ℕ)

abbrev beside : String → String → List (List ℕ) → List (List ℕ) → Sample
beside sheet note ds rs = record { note = note; sheet = sheet; definition_rows = ds; rows_of_spans = rs }

-- with an empty sheet
abbrev sample : String → List (List ℕ) → List (List ℕ) → Sample
sample = beside ""

abbrev of_note : ℕ → ℕ → ℕ → ℕ → ℕ → ℕ → ℕ → List ℕ
of_note a b c d e f l = 0 ∷ a ∷ b ∷ c ∷ d ∷ e ∷ f ∷ l ∷ []

abbrev of_sheet : ℕ → ℕ → ℕ → ℕ → ℕ → ℕ → ℕ → List ℕ
of_sheet a b c d e f l = 1 ∷ a ∷ b ∷ c ∷ d ∷ e ∷ f ∷ l ∷ []

abbrev eleven : ℕ → ℕ → ℕ → ℕ → ℕ → ℕ → ℕ → ℕ → ℕ → ℕ → ℕ → List ℕ
eleven k a b c d n e f g h l = k ∷ a ∷ b ∷ c ∷ d ∷ n ∷ e ∷ f ∷ g ∷ h ∷ l ∷ []

abbrev pub samples : List Sample
samples =
    -- P1 to P5: source 000
    sample "[link]()" [] (eleven 2 0 8 1 5 0 0 0 0 0 1 ∷ [])
    ∷ sample "[a](<b)c>)" [] (eleven 2 0 10 1 2 0 5 8 0 0 1 ∷ [])
    ∷ sample "[link](foo\\)\\:)" [] (eleven 2 0 15 1 5 0 7 14 0 0 1 ∷ [])
    ∷ sample "[link](/my uri)" [] []
    ∷ sample "[foo][ref\\[]\n\n[ref\\[]: /uri" (of_note 15 20 23 27 0 0 3 ∷ []) (eleven 3 0 12 1 4 1 23 27 0 0 1 ∷ [])
    -- P6 to P11: source 003
    ∷ sample "[foo [bar](/uri)][ref]\n\n[ref]: /uri" (of_note 25 28 31 35 0 0 3 ∷ []) (eleven 2 5 16 6 9 0 11 15 0 0 1 ∷ eleven 5 17 22 18 21 1 31 35 0 0 1 ∷ [])
    ∷ sample "[foo][bar][baz]\n\n[baz]: /url" (of_note 18 21 24 28 0 0 3 ∷ []) (eleven 3 5 15 6 9 1 24 28 0 0 1 ∷ [])
    ∷ sample "[foo][bar][baz]\n\n[baz]: /url1\n[bar]: /url2" (of_note 18 21 24 29 0 0 3 ∷ of_note 31 34 37 42 0 0 4 ∷ []) (eleven 3 0 10 1 4 2 37 42 0 0 1 ∷ eleven 5 10 15 11 14 1 24 29 0 0 1 ∷ [])
    ∷ sample "[foo][bar][baz]\n\n[baz]: /url1\n[foo]: /url2" (of_note 18 21 24 29 0 0 3 ∷ of_note 31 34 37 42 0 0 4 ∷ []) (eleven 3 5 15 6 9 1 24 29 0 0 1 ∷ [])
    ∷ sample "[foo`][ref]`\n\n[ref]: /uri" (of_note 15 18 21 25 0 0 3 ∷ []) (eleven 1 4 12 5 11 0 0 0 0 0 1 ∷ [])
    ∷ sample "[foo](not a link)\n\n[foo]: /url1" (of_note 20 23 26 31 0 0 3 ∷ []) (eleven 5 0 5 1 4 1 26 31 0 0 1 ∷ [])
    -- P12 and P13: source 002, examples 173 and 179
    ∷ sample "[foo]\n\n[foo]: first\n[foo]: second" (of_note 8 11 14 19 0 0 3 ∷ of_note 21 24 27 33 0 0 4 ∷ []) (eleven 5 0 5 1 4 1 14 19 0 0 1 ∷ [])
    ∷ sample "[foo]: /url\n\"title\" ok" (of_note 1 4 7 11 0 0 1 ∷ []) []
    ∷ []

-- "Whole example, 34 bytes", and it "gains 1 on its definition row and 3 on its span row"
abbrev pub whole_example : Sample
whole_example = sample "[max]: /q2/max \"June\"\n\nUse [max].\n" (of_note 1 4 7 14 16 20 1 ∷ []) (eleven 5 27 32 28 31 1 7 14 16 20 3 ∷ [])

-- lines: of a definition whose parts stand on two lines, of a link that starts before the code span in it, and past empty lines
abbrev pub over_lines : Sample
over_lines =
    sample "\n[a]:\nb\n\n[x\n`y`][a]\n\n\n`z`" (of_note 2 3 6 7 0 0 2 ∷ [])
    (eleven 1 12 15 13 14 0 0 0 0 0 6 ∷ eleven 3 9 19 10 15 1 6 7 0 0 5 ∷ eleven 1 22 25 23 24 0 0 0 0 0 9 ∷ [])

-- with a sheet: the note's definition is the first of two equal ones; the sheet's paragraphs, brackets too, are ignored; the line of a sheet's definition is the
-- sheet's; an inline link keeps its own destination
abbrev pub with_sheet : List Sample
with_sheet =
    beside "[a]: /s\n[b]: /t 'x'" "[a] [b]\n\n[a]: /n" (of_note 10 11 14 16 0 0 3 ∷ of_sheet 1 2 5 7 0 0 1 ∷ of_sheet 9 10 13 15 17 18 2 ∷ [])
    (eleven 5 0 3 1 2 1 14 16 0 0 1 ∷ eleven 5 4 7 5 6 3 13 15 17 18 1 ∷ [])
    ∷ beside "[[[[`y` [x]\n\n[x]: /u" "[x]" (of_sheet 14 15 18 20 0 0 3 ∷ []) (eleven 5 0 3 1 2 1 18 20 0 0 1 ∷ [])
    ∷ beside "[x]: /u" "[x](/i) [y][x]" (of_sheet 1 2 5 7 0 0 1 ∷ []) (eleven 2 0 7 1 2 0 4 6 0 0 1 ∷ eleven 3 8 14 9 10 1 5 7 0 0 1 ∷ [])
    ∷ []

-- with images: the first five are the standard's, from its sections on images and on links
abbrev pub with_images : List Sample
with_images =
    -- "An image may hold links and images"
    sample "![foo ![bar](/url)](/url2)" [] (eleven 6 6 18 8 11 0 13 17 0 0 1 ∷ eleven 6 0 26 2 18 0 20 25 0 0 1 ∷ [])
    ∷ sample "![foo [bar](/url)](/url2)" [] (eleven 2 6 17 7 10 0 12 16 0 0 1 ∷ eleven 6 0 25 2 17 0 19 24 0 0 1 ∷ [])
    ∷ sample "![[[foo](uri1)](uri2)](uri3)" [] (eleven 2 3 14 4 7 0 9 13 0 0 1 ∷ eleven 6 0 28 2 21 0 23 27 0 0 1 ∷ [])
    -- "A link may hold an image"
    ∷ sample "[![moon](moon.jpg)](/uri)" [] (eleven 6 1 18 3 7 0 9 17 0 0 1 ∷ eleven 2 0 25 1 18 0 20 24 0 0 1 ∷ [])
    -- "`\![` is an escape and an ordinary opening"
    ∷ sample "\\![foo]\n\n[foo]: /url \"title\"" (of_note 10 13 16 20 22 27 3 ∷ []) (eleven 5 2 7 3 6 1 16 20 22 27 1 ∷ [])
    -- "but no link at any depth, through images too"
    ∷ sample "[![[a](b)](c)](d)" [] (eleven 2 3 9 4 5 0 7 8 0 0 1 ∷ eleven 6 1 13 3 9 0 11 12 0 0 1 ∷ [])
    -- references by a sheet's definition
    ∷ beside "[p]: /s 'x'" "![a][p] ![p][] ![p]" (of_sheet 1 2 5 7 9 10 1 ∷ []) (eleven 7 0 7 2 3 1 5 7 9 10 1 ∷ eleven 8 8 14 10 11 1 5 7 9 10 1 ∷ eleven 9 15 19 17 18 1 5 7 9 10 1 ∷ [])
    -- over two lines; and a `!` that a line's end parts from its `[`
    ∷ sample "![a\nb](c)!\n[d](e)" [] (eleven 6 0 9 2 5 0 7 8 0 0 1 ∷ eleven 2 11 17 12 13 0 15 16 0 0 3 ∷ [])
    ∷ []

abbrev pub texts_of : Sample → Texts
texts_of x = texts (ascii x.note) (ascii x.sheet)

-- a sample's texts with the rows that are read from their bytes
abbrev pub read_one : Sample → Sample
read_one x = beside x.sheet x.note (map (numbers (texts_of x)) (joined (texts_of x))) (span_rows (texts_of x))

abbrev pub brackets : ℕ → List ℕ
brackets n = replicate n 91

-- a paragraph of so many opening brackets
abbrev pub openings : ℕ → ℕ → Placed
openings at n = record { at = at; bytes = brackets n }

-- two paragraphs of them
abbrev pub two : ℕ → ℕ → List ℕ
two n m = brackets n ++ 10 ∷ 10 ∷ brackets m

-- ---- openings of either sort
abbrev pub opener : Sort → List ℕ
opener link = 91 ∷ []
opener image = 33 ∷ 91 ∷ []

abbrev pub openers : List Sort → List ℕ
openers [] = []
openers (x ∷ xs) = opener x ++ openers xs

-- a paragraph of them
abbrev pub opened : ℕ → List Sort → Placed
opened at xs = record { at = at; bytes = openers xs }

abbrev pub pictures : ℕ → List Sort
pictures n = replicate n image

-- `[![` so many times
abbrev pub by_turns : ℕ → List Sort
by_turns zero = []
by_turns (suc n) = link ∷ image ∷ by_turns n

-- and then `[`
abbrev pub one_more : ℕ → List Sort
one_more n = by_turns n ++ link ∷ []

-- the note s with an empty sheet
abbrev pub alone : List ℕ → Texts
alone s = texts s []

abbrev pub parts_of : List ℕ → List Listed × List Placed
parts_of s = (joined (alone s), paragraphs s)

pub record Holds : Type 0 where
  pub bench : map read_one samples ≡ samples
  pub example : read_one whole_example ≡ whole_example
  pub lines : read_one over_lines ≡ over_lines
  pub sheets : map read_one with_sheet ≡ with_sheet
  pub images : map read_one with_images ≡ with_images
  -- "A formulary import has lists in square brackets 70 deep."
  pub seventy : first_deep (alone (brackets 70 ++ replicate 70 93)) ≡ none
  pub parts_1024 : parts_of (brackets 1024) ≡ ([], openings 0 1024 ∷ [])
  pub parts_1025 : parts_of (brackets 1025) ≡ ([], openings 0 1025 ∷ [])
  pub parts_two : parts_of (two 1024 1024) ≡ ([], openings 0 1024 ∷ openings 1026 1024 ∷ [])
  pub parts_later : parts_of (two 5 1025) ≡ ([], openings 0 5 ∷ openings 7 1025 ∷ [])
  pub deep_sheet : joined (texts (brackets 1024) (brackets 1025)) ≡ []
  pub parts_images : parts_of (openers (pictures 1024)) ≡ ([], opened 0 (pictures 1024) ∷ [])
  pub parts_deep_images : parts_of (openers (pictures 1025)) ≡ ([], opened 0 (pictures 1025) ∷ [])
  pub parts_turns : parts_of (openers (by_turns 512)) ≡ ([], opened 0 (by_turns 512) ∷ [])
  pub parts_deep_turns : parts_of (openers (one_more 512)) ≡ ([], opened 0 (one_more 512) ∷ [])

-- As many brackets open as may be, and one more. A scan of so many pieces costs too much to be computed: what is read of openings alone is known for
-- every list of them.
pub record Edges : Type 0 where
  pub shallow : first_deep (alone (brackets 1024)) ≡ none
  pub deep : first_deep (alone (brackets 1025)) ≡ some 1024
  -- "Each paragraph starts afresh", and places count from the note's start
  pub afresh : first_deep (alone (two 1024 1024)) ≡ none
  pub deep_later : first_deep (alone (two 5 1025)) ≡ some 1031
  pub no_span : span_rows (alone (brackets 1024)) ≡ []
  -- "refusal 4 reads the note only"
  pub deep_sheet : first_deep (texts (brackets 1024) (brackets 1025)) ≡ none
  -- "Both sorts of opening count for pairing and for refusal 4 (its place is the `[`)"
  pub shallow_images : first_deep (alone (openers (pictures 1024))) ≡ none
  pub deep_images : first_deep (alone (openers (pictures 1025))) ≡ some 2049
  pub shallow_turns : first_deep (alone (openers (by_turns 512))) ≡ none
  pub deep_turns : first_deep (alone (openers (one_more 512))) ≡ some 1536
  pub no_image : span_rows (alone (openers (by_turns 512))) ≡ []

pub holds : Holds
unfolding feeds line_of scan_bytes run past leap closing_step closing ones_from leading_ones sequence_length characters inky fits_after fits label_end unclosed is_label
    space_from depth_after raw_step raw_run judged destination_of closer title_of lower pair code_of folds_from spaced squeeze compared equals matches
    spans finish scan scan_step scan_found scan_start over overs over_within blank_line line_length block_rest block_length part_length block_here blocks match_from
    definition.line_after definition.title_after definition.ending_after definition.after_label definition.after_indent definition.definition_at definition.taking_from definition.definitions_from
    definition.paragraph_end definition.paragraph_from definition.definitions_of definition.paragraph_of definition.definitions_in definition.paragraphs_in definitions paragraphs
    count_after run_step run_done closing_run piece_from closed_at after_destination inline_of label_after text_tail tail_of joined labels rows_in span_rows deep_in first_deep
holds =
    record {
      bench = refl;
      example = refl;
      lines = refl;
      sheets = refl;
      images = refl;
      seventy = refl;
      parts_1024 = refl;
      parts_1025 = refl;
      parts_two = refl;
      parts_later = refl;
      deep_sheet = refl;
      parts_images = refl;
      parts_deep_images = refl;
      parts_turns = refl;
      parts_deep_turns = refl;
    }
