-- Paragraphs and their span rows, by computation.
use Rattle.std.specs.Prelude.{ℕ, ◌+◌, ◌≡◌, refl, List, [], ◌∷◌, ◌++◌, map, replicate, Bool, true, false, ◌&&◌, eqb}
use Prim.Native.String.{String}
use Rattle.scan.specs.Ascii.{ascii}
use Rattle.line.specs.Line.{feeds, line_of}
use Rattle.scan.specs.Reading.{scan as scan_bytes, run, closing_step, closing}
use Rattle.text.specs.Sequences.{ones_from, leading_ones, sequence_length, characters}
use Rattle.label.specs.Reading.{inky, fits_after, fits, label_end, unclosed, is_label}
use Rattle.target.specs.Reading.{space_from, depth_after, raw_step, raw_run, judged, destination_of, closer, title_of}
use Rattle.matching.specs.Reading.{lower, pair, code_of, folds_from, spaced, squeeze, compared, equals, matches}
use Rattle.marking.specs.ReadingSpans.{spans, finish, scan, scan_step, scan_found, scan_start}
use Rattle.row.specs.declared.Definition.{Definition}
use Rattle.row.specs.Row.{range, absent}
use Rattle.row.specs.Reading.{match_from}
use Rattle.inline.specs.ReadingPieces.{count_after, run_step, run_done, closing_run, piece_from}
use Rattle.inline.specs.ReadingTails.{closed_at, after_destination, inline_of, label_after, text_tail, tail_of}
use Rattle.inline.specs.ReadingRows.{span_rows}

-- a paragraph at place 1000 of the note, on its third line; the labels of the definitions; and the rows
pub record Sample : Type 0 where
  pub text : String
  pub labels : List String
  pub rows : List (List ℕ)

abbrev sample : String → List String → List (List ℕ) → Sample
sample p ls rs = record { text = p; labels = ls; rows = rs }

-- the k-th definition's destination stands from 100 * k + 10 to 100 * k + 20, its title from 100 * k + 30 to 100 * k + 40
abbrev definitions_from : ℕ → List String → List Definition
definitions_from h [] = []
definitions_from h (l ∷ ls) = record { label = absent; destination = range (h + 10) (h + 20); title = range (h + 30) (h + 40) } ∷ definitions_from (h + 100) ls

abbrev note : List ℕ → List ℕ
note p = replicate 998 97 ++ 10 ∷ 10 ∷ p

abbrev rows_of : Sample → List (List ℕ)
rows_of s = span_rows (note (ascii s.text)) 1000 (ascii s.text) (map ascii s.labels) (definitions_from 100 s.labels)

abbrev pub samples : List Sample
samples =
    -- inline
    sample "[link]()" [] ((2 ∷ 1000 ∷ 1008 ∷ 1001 ∷ 1005 ∷ 0 ∷ 0 ∷ 0 ∷ 0 ∷ 0 ∷ 3 ∷ []) ∷ [])
    ∷ sample "[a](<b)c>)" [] ((2 ∷ 1000 ∷ 1010 ∷ 1001 ∷ 1002 ∷ 0 ∷ 1005 ∷ 1008 ∷ 0 ∷ 0 ∷ 3 ∷ []) ∷ [])
    ∷ sample "[link](foo\\)\\:)" [] ((2 ∷ 1000 ∷ 1015 ∷ 1001 ∷ 1005 ∷ 0 ∷ 1007 ∷ 1014 ∷ 0 ∷ 0 ∷ 3 ∷ []) ∷ [])
    ∷ sample "[link](/my uri)" [] []
    ∷ sample "[foo](not a link)" [] []
    ∷ sample "[a](<b>\"t\")" [] []
    ∷ sample "[a](b \"t\")" [] ((2 ∷ 1000 ∷ 1010 ∷ 1001 ∷ 1002 ∷ 0 ∷ 1004 ∷ 1005 ∷ 1007 ∷ 1008 ∷ 3 ∷ []) ∷ [])
    ∷ sample "[a](<> \"\")" [] ((2 ∷ 1000 ∷ 1010 ∷ 1001 ∷ 1002 ∷ 0 ∷ 1005 ∷ 1005 ∷ 1008 ∷ 1008 ∷ 3 ∷ []) ∷ [])
    ∷ sample "[a](\nb\n'c'\n)" [] ((2 ∷ 1000 ∷ 1012 ∷ 1001 ∷ 1002 ∷ 0 ∷ 1005 ∷ 1006 ∷ 1008 ∷ 1009 ∷ 3 ∷ []) ∷ [])
    -- references
    ∷ sample "[foo](not a link)" ("foo" ∷ []) ((5 ∷ 1000 ∷ 1005 ∷ 1001 ∷ 1004 ∷ 1 ∷ 110 ∷ 120 ∷ 130 ∷ 140 ∷ 3 ∷ []) ∷ [])
    ∷ sample "[foo [bar](/uri)][ref]" ("ref" ∷ []) ((2 ∷ 1005 ∷ 1016 ∷ 1006 ∷ 1009 ∷ 0 ∷ 1011 ∷ 1015 ∷ 0 ∷ 0 ∷ 3 ∷ []) ∷ (5 ∷ 1017 ∷ 1022 ∷ 1018 ∷ 1021 ∷ 1 ∷ 110 ∷ 120 ∷ 130 ∷ 140 ∷ 3 ∷ []) ∷ [])
    ∷ sample "[foo][bar][baz]" ("baz" ∷ []) ((3 ∷ 1005 ∷ 1015 ∷ 1006 ∷ 1009 ∷ 1 ∷ 110 ∷ 120 ∷ 130 ∷ 140 ∷ 3 ∷ []) ∷ [])
    ∷ sample "[foo][bar][baz]" ("baz" ∷ "bar" ∷ []) ((3 ∷ 1000 ∷ 1010 ∷ 1001 ∷ 1004 ∷ 2 ∷ 210 ∷ 220 ∷ 230 ∷ 240 ∷ 3 ∷ []) ∷ (5 ∷ 1010 ∷ 1015 ∷ 1011 ∷ 1014 ∷ 1 ∷ 110 ∷ 120 ∷ 130 ∷ 140 ∷ 3 ∷ []) ∷ [])
    ∷ sample "[foo][bar][baz]" ("baz" ∷ "foo" ∷ []) ((3 ∷ 1005 ∷ 1015 ∷ 1006 ∷ 1009 ∷ 1 ∷ 110 ∷ 120 ∷ 130 ∷ 140 ∷ 3 ∷ []) ∷ [])
    ∷ sample "[foo][ref\\[]" ("ref\\[" ∷ []) ((3 ∷ 1000 ∷ 1012 ∷ 1001 ∷ 1004 ∷ 1 ∷ 110 ∷ 120 ∷ 130 ∷ 140 ∷ 3 ∷ []) ∷ [])
    ∷ sample "[foo][]" ("Foo" ∷ "foo" ∷ []) ((4 ∷ 1000 ∷ 1007 ∷ 1001 ∷ 1004 ∷ 1 ∷ 110 ∷ 120 ∷ 130 ∷ 140 ∷ 3 ∷ []) ∷ [])
    ∷ sample "[foo][ ]" ("foo" ∷ []) ((5 ∷ 1000 ∷ 1005 ∷ 1001 ∷ 1004 ∷ 1 ∷ 110 ∷ 120 ∷ 130 ∷ 140 ∷ 3 ∷ []) ∷ [])
    -- code spans
    ∷ sample "[foo`][ref]`" ("ref" ∷ []) ((1 ∷ 1004 ∷ 1012 ∷ 1005 ∷ 1011 ∷ 0 ∷ 0 ∷ 0 ∷ 0 ∷ 0 ∷ 3 ∷ []) ∷ [])
    ∷ sample "``a`b``" [] ((1 ∷ 1000 ∷ 1007 ∷ 1002 ∷ 1005 ∷ 0 ∷ 0 ∷ 0 ∷ 0 ∷ 0 ∷ 3 ∷ []) ∷ [])
    ∷ sample "`a``b`" [] ((1 ∷ 1000 ∷ 1006 ∷ 1001 ∷ 1005 ∷ 0 ∷ 0 ∷ 0 ∷ 0 ∷ 0 ∷ 3 ∷ []) ∷ [])
    ∷ sample "\\``a`" [] ((1 ∷ 1002 ∷ 1005 ∷ 1003 ∷ 1004 ∷ 0 ∷ 0 ∷ 0 ∷ 0 ∷ 0 ∷ 3 ∷ []) ∷ [])
    ∷ sample "`a\\``" [] []
    -- images of each kind: the span starts at the `!`
    ∷ sample "![a](b 'c')" [] ((6 ∷ 1000 ∷ 1011 ∷ 1002 ∷ 1003 ∷ 0 ∷ 1005 ∷ 1006 ∷ 1008 ∷ 1009 ∷ 3 ∷ []) ∷ [])
    ∷ sample "x ![a][r]" ("r" ∷ []) ((7 ∷ 1002 ∷ 1009 ∷ 1004 ∷ 1005 ∷ 1 ∷ 110 ∷ 120 ∷ 130 ∷ 140 ∷ 3 ∷ []) ∷ [])
    ∷ sample "![r][]![r]" ("r" ∷ []) ((8 ∷ 1000 ∷ 1006 ∷ 1002 ∷ 1003 ∷ 1 ∷ 110 ∷ 120 ∷ 130 ∷ 140 ∷ 3 ∷ []) ∷ (9 ∷ 1006 ∷ 1010 ∷ 1008 ∷ 1009 ∷ 1 ∷ 110 ∷ 120 ∷ 130 ∷ 140 ∷ 3 ∷ []) ∷ [])
    -- without a tail it is no link either; "`\![` is an escape and an ordinary opening"; of two marks the second opens; `!\[` opens nothing
    ∷ sample "![a]" [] []
    ∷ sample "\\![r]" ("r" ∷ []) ((5 ∷ 1002 ∷ 1005 ∷ 1003 ∷ 1004 ∷ 1 ∷ 110 ∷ 120 ∷ 130 ∷ 140 ∷ 3 ∷ []) ∷ [])
    ∷ sample "!![r]" ("r" ∷ []) ((9 ∷ 1001 ∷ 1005 ∷ 1003 ∷ 1004 ∷ 1 ∷ 110 ∷ 120 ∷ 130 ∷ 140 ∷ 3 ∷ []) ∷ [])
    ∷ sample "!\\[r]" ("r" ∷ []) []
    -- "An image may hold links and images", and then no link is around them; "A link may hold an image"
    ∷ sample "[![[a](b)](c)](d)" [] ((2 ∷ 1003 ∷ 1009 ∷ 1004 ∷ 1005 ∷ 0 ∷ 1007 ∷ 1008 ∷ 0 ∷ 0 ∷ 3 ∷ []) ∷ (6 ∷ 1001 ∷ 1013 ∷ 1003 ∷ 1009 ∷ 0 ∷ 1011 ∷ 1012 ∷ 0 ∷ 0 ∷ 3 ∷ []) ∷ [])
    ∷ sample "[![![a](b)](c)](d)" [] ((6 ∷ 1003 ∷ 1010 ∷ 1005 ∷ 1006 ∷ 0 ∷ 1008 ∷ 1009 ∷ 0 ∷ 0 ∷ 3 ∷ []) ∷ (6 ∷ 1001 ∷ 1014 ∷ 1003 ∷ 1010 ∷ 0 ∷ 1012 ∷ 1013 ∷ 0 ∷ 0 ∷ 3 ∷ []) ∷ (2 ∷ 1000 ∷ 1018 ∷ 1001 ∷ 1014 ∷ 0 ∷ 1016 ∷ 1017 ∷ 0 ∷ 0 ∷ 3 ∷ []) ∷ [])
    -- "the line .. of the span's start": the code span stands on the next line, and the link around it starts before
    ∷ sample "[a\n`b\n`](c)" [] ((1 ∷ 1003 ∷ 1007 ∷ 1004 ∷ 1006 ∷ 0 ∷ 0 ∷ 0 ∷ 0 ∷ 0 ∷ 4 ∷ []) ∷ (2 ∷ 1000 ∷ 1011 ∷ 1001 ∷ 1007 ∷ 0 ∷ 1009 ∷ 1010 ∷ 0 ∷ 0 ∷ 3 ∷ []) ∷ [])
    ∷ []

abbrev same_numbers : List ℕ → List ℕ → Bool
same_numbers [] [] = true
same_numbers [] (y ∷ ys) = false
same_numbers (x ∷ xs) [] = false
same_numbers (x ∷ xs) (y ∷ ys) = eqb x y && same_numbers xs ys

abbrev same_rows : List (List ℕ) → List (List ℕ) → Bool
same_rows [] [] = true
same_rows [] (y ∷ ys) = false
same_rows (x ∷ xs) [] = false
same_rows (x ∷ xs) (y ∷ ys) = same_numbers x y && same_rows xs ys

abbrev hold : List Sample → Bool
hold [] = true
hold (s ∷ more) = same_rows (rows_of s) s.rows && hold more

pub samples_hold : hold samples ≡ true
unfolding feeds line_of scan_bytes run closing_step closing ones_from leading_ones sequence_length characters inky fits_after fits label_end unclosed is_label space_from depth_after raw_step raw_run judged destination_of closer title_of lower pair code_of folds_from spaced squeeze compared equals matches spans finish scan scan_step scan_found scan_start count_after run_step run_done closing_run piece_from closed_at after_destination inline_of match_from label_after text_tail tail_of
samples_hold = refl
