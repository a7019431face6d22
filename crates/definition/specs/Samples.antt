-- Notes of source 002 (examples 161 to 188 in ASCII that are in scope) with their definition rows and where their paragraphs start and end; and
-- edges of the rules.
use Rattle.std.specs.Prelude.{ℕ, ◌+◌, ◌≡◌, refl, List, [], ◌∷◌, length}
use Prim.Native.String.{String}
use Rattle.scan.specs.Ascii.{ascii}
use Rattle.scan.specs.Reading.{scan, run, past, leap, closing_step, closing}
use Rattle.text.specs.Sequences.{ones_from, leading_ones, sequence_length, characters}
use Rattle.label.specs.Reading.{inky, fits_after, fits, label_end}
use Rattle.target.specs.Reading.{space_from, depth_after, raw_step, raw_run, judged, destination_of, closer, title_of}
use Rattle.block.specs.Block.{Placed}
use Rattle.block.specs.Reading.{blank_line, line_length, block_rest, block_length, part_length, block_here, blocks}
use Rattle.row.specs.declared.Definition.{Definition}
use Rattle.definition.specs.Reading as reading
use Rattle.definition.specs.Reading.{row, definitions, paragraphs}

pub record Sample : Type 0 where
  pub note : String
  pub rows : List Definition
  pub paragraphs : List (ℕ × ℕ)

abbrev sample : String → List Definition → List (ℕ × ℕ) → Sample
sample note rows ps = record { note = note; rows = rows; paragraphs = ps }

abbrev pub examples : List Sample
examples =
    sample "[foo]: /url \"title\"\n\n[foo]" (row 1 4 7 11 13 18 ∷ []) ((21, 26) ∷ [])
    ∷ sample "   [foo]: \n      /url  \n           'the title'  \n\n[foo]" (row 4 7 17 21 36 45 ∷ []) ((50, 55) ∷ [])
    ∷ sample "[Foo*bar\\]]:my_(url) 'title (with parens)'\n\n[Foo*bar\\]]" (row 1 10 12 20 22 41 ∷ []) ((44, 55) ∷ [])
    ∷ sample "[Foo bar]:\n<my url>\n'title'\n\n[Foo bar]" (row 1 8 12 18 21 26 ∷ []) ((29, 38) ∷ [])
    ∷ sample "[foo]: /url '\ntitle\nline1\nline2\n'\n\n[foo]" (row 1 4 7 11 13 32 ∷ []) ((35, 40) ∷ [])
    ∷ sample "[foo]: /url 'title\n\nwith blank line'\n\n[foo]" [] ((0, 18) ∷ (20, 36) ∷ (38, 43) ∷ [])
    ∷ sample "[foo]:\n/url\n\n[foo]" (row 1 4 7 11 0 0 ∷ []) ((13, 18) ∷ [])
    ∷ sample "[foo]:\n\n[foo]" [] ((0, 6) ∷ (8, 13) ∷ [])
    ∷ sample "[foo]: <>\n\n[foo]" (row 1 4 8 8 0 0 ∷ []) ((11, 16) ∷ [])
    ∷ sample "[foo]: <bar>(baz)\n\n[foo]" [] ((0, 17) ∷ (19, 24) ∷ [])
    ∷ sample "[foo]: /url\\bar\\*baz \"foo\\\"bar\\baz\"\n\n[foo]" (row 1 4 7 20 22 34 ∷ []) ((37, 42) ∷ [])
    ∷ sample "[foo]\n\n[foo]: url" (row 8 11 14 17 0 0 ∷ []) ((0, 5) ∷ [])
    ∷ sample "[foo]\n\n[foo]: first\n[foo]: second" (row 8 11 14 19 0 0 ∷ row 21 24 27 33 0 0 ∷ []) ((0, 5) ∷ [])
    ∷ sample "[FOO]: /url\n\n[Foo]" (row 1 4 7 11 0 0 ∷ []) ((13, 18) ∷ [])
    ∷ sample "[foo]: /url" (row 1 4 7 11 0 0 ∷ []) []
    ∷ sample "[\nfoo\n]: /url\nbar" (row 1 6 9 13 0 0 ∷ []) ((14, 17) ∷ [])
    ∷ sample "[foo]: /url \"title\" ok" [] ((0, 22) ∷ [])
    ∷ sample "[foo]: /url\n\"title\" ok" (row 1 4 7 11 0 0 ∷ []) ((12, 22) ∷ [])
    ∷ sample "Foo\n[bar]: /baz\n\n[bar]" [] ((0, 15) ∷ (17, 22) ∷ [])
    ∷ sample "[foo]: /url\n===\n[foo]" (row 1 4 7 11 0 0 ∷ []) ((12, 21) ∷ [])
    ∷ sample "[foo]: /foo-url \"foo\"\n[bar]: /bar-url\n  \"bar\"\n[baz]: /baz-url\n\n[foo],\n[bar],\n[baz]" (row 1 4 7 15 17 20 ∷ row 23 26 29 37 41 44 ∷ row 47 50 53 61 0 0 ∷ []) ((63, 82) ∷ [])
    ∷ []

abbrev pub edges : List Sample
edges =
    sample "" [] []
    ∷ sample "[max]: /q2/max \"June\"\n\nUse [max].\n" (row 1 4 7 14 16 20 ∷ []) ((23, 33) ∷ [])
    ∷ sample "   [a]: b" (row 4 5 8 9 0 0 ∷ []) []
    ∷ sample "    [a]: b" [] ((0, 10) ∷ [])
    ∷ sample "[a]: b\"c\"" (row 1 2 5 9 0 0 ∷ []) []
    ∷ sample "[a]: <b>\"c\"" [] ((0, 11) ∷ [])
    ∷ sample "[a]: b \"c\"\td" [] ((0, 12) ∷ [])
    ∷ sample "[a]: b\t\t\n\tx" (row 1 2 5 6 0 0 ∷ []) ((9, 11) ∷ [])
    ∷ sample "[a]: b\n\"c\n" (row 1 2 5 6 0 0 ∷ []) ((7, 9) ∷ [])
    ∷ sample "[a] : b" [] ((0, 7) ∷ [])
    ∷ sample "[ ]: b" [] ((0, 6) ∷ [])
    ∷ sample "[a]: (b" [] ((0, 7) ∷ [])
    ∷ sample "[a]: b (c)\n[a]: d\n\n \t\n[e]: f" (row 1 2 5 6 8 9 ∷ row 12 13 16 17 0 0 ∷ row 23 24 27 28 0 0 ∷ []) []
    ∷ []

abbrev places : List Placed → List (ℕ × ℕ)
places [] = []
places (p ∷ ps) = (p.at, p.at + length p.bytes) ∷ places ps

-- the same notes as they are read
abbrev read : List Sample → List Sample
read [] = []
read (x ∷ xs) = sample x.note (definitions (ascii x.note)) (places (paragraphs (ascii x.note))) ∷ read xs

pub samples_hold : (read examples ≡ examples) × (read edges ≡ edges)
unfolding scan run past leap closing_step closing ones_from leading_ones sequence_length characters inky fits_after fits label_end
    space_from depth_after raw_step raw_run judged destination_of closer title_of blank_line line_length block_rest block_length part_length block_here blocks
    reading.line_after reading.title_after reading.ending_after reading.after_label reading.after_indent reading.definition_at reading.taking_from reading.definitions_from
    reading.paragraph_end reading.paragraph_from reading.definitions_of reading.paragraph_of reading.definitions_in reading.paragraphs_in definitions paragraphs
samples_hold = (refl, refl)
