-- Rows, tables and lookups, by computation.
use Rattle.std.specs.Prelude.{ℕ, ◌≡◌, refl, List, [], ◌∷◌, map, replicate, None, Option, Some}
use Prim.Native.String.{String}
use Rattle.scan.specs.Ascii.{ascii}
use Rattle.matching.specs.Reading.{lower, pair, code_of, folds_from, spaced, squeeze, compared, equals, matches}
use Rattle.line.specs.Line.{feeds, line_of}
use Rattle.rows.specs.Rows
use Rattle.texts.specs.Texts.{Texts, texts}
use Rattle.row.specs.Row.{range, absent, definition, Listed, listed, numbers, filled}
use Rattle.row.specs.First.{past_end, named_text}
use Rattle.row.specs.Reading.{match_from, first_match, listed_from, row_of}

-- ---- rows
-- `[max]: /q2/max "June"`, at the note's start
abbrev max : Listed
max = listed 0 (definition (range 1 4) (range 7 14) (range 16 20))

-- `[max]: /q1`, on the sheet's second line
abbrev stale : Listed
stale = listed 1 (definition (range 2 5) (range 8 11) absent)

abbrev T : Texts
T = texts (ascii "[max]: /q2/max \"June\"\n") (ascii "\n[max]: /q1")

-- `[max` and `dose]: /q2`: the label over two lines
abbrev two_lined : Listed
two_lined = listed 0 (definition (range 1 9) (range 12 15) absent)

pub record DefinitionRows : Type 0 where
  pub titled_row : numbers T max ≡ 0 ∷ 1 ∷ 4 ∷ 7 ∷ 14 ∷ 16 ∷ 20 ∷ 1 ∷ []
  -- the line is counted in the row's own text
  pub sheet_row : numbers T stale ≡ 1 ∷ 2 ∷ 5 ∷ 8 ∷ 11 ∷ 0 ∷ 0 ∷ 2 ∷ []
  pub two_lined_row : numbers (texts (ascii "[max\ndose]: /q2") []) two_lined ≡ 0 ∷ 1 ∷ 9 ∷ 12 ∷ 15 ∷ 0 ∷ 0 ∷ 1 ∷ []

pub definition_rows : DefinitionRows
unfolding feeds line_of
definition_rows = record { titled_row = refl; sheet_row = refl; two_lined_row = refl }

-- ---- tables of n nines, filled with the two rows
abbrev table : ℕ → List ℕ
table n = filled T (max ∷ stale ∷ []) (replicate n 9)

pub record Tables : Type 0 where
  pub none : table 0 ≡ []
  pub short : table 7 ≡ 9 ∷ 9 ∷ 9 ∷ 9 ∷ 9 ∷ 9 ∷ 9 ∷ []
  pub one : table 8 ≡ 0 ∷ 1 ∷ 4 ∷ 7 ∷ 14 ∷ 16 ∷ 20 ∷ 1 ∷ []
  pub one_and_more : table 9 ≡ 0 ∷ 1 ∷ 4 ∷ 7 ∷ 14 ∷ 16 ∷ 20 ∷ 1 ∷ 9 ∷ []
  pub two : table 16 ≡ 0 ∷ 1 ∷ 4 ∷ 7 ∷ 14 ∷ 16 ∷ 20 ∷ 1 ∷ 1 ∷ 2 ∷ 5 ∷ 8 ∷ 11 ∷ 0 ∷ 0 ∷ 2 ∷ []
  pub two_and_more : table 17 ≡ 0 ∷ 1 ∷ 4 ∷ 7 ∷ 14 ∷ 16 ∷ 20 ∷ 1 ∷ 1 ∷ 2 ∷ 5 ∷ 8 ∷ 11 ∷ 0 ∷ 0 ∷ 2 ∷ 9 ∷ []

pub tables : Tables
unfolding Rows.filled Rows.rows feeds line_of
tables = record { none = refl; short = refl; one = refl; one_and_more = refl; two = refl; two_and_more = refl }

-- ---- the text of a definition number
pub record Named : Type 0 where
  pub no_definition : named_text T (max ∷ stale ∷ []) 0 ≡ T.note
  pub note : named_text T (max ∷ stale ∷ []) 1 ≡ T.note
  pub sheet : named_text T (max ∷ stale ∷ []) 2 ≡ T.sheet

pub named : Named
named = record { no_definition = refl; note = refl; sheet = refl }

-- ---- lookups
abbrev found : List String → String → Option ℕ
found labels label = first_match (map ascii labels) (ascii label)

pub record Lookups : Type 0 where
  pub first : found ("a" ∷ "foo" ∷ "FOO" ∷ []) "Foo" ≡ Some 1
  pub blanks : found ("foo\tbar" ∷ "foo bar" ∷ []) " FOO\n bar" ≡ Some 0
  pub unequal : found ("foo" ∷ "bar" ∷ []) "baz" ≡ None
  pub no_rows : found [] "foo" ≡ None
  pub escape : found ("foo!" ∷ "foo\\!" ∷ []) "foo\\!" ≡ Some 1
  pub no_escape : found ("foo\\!" ∷ []) "foo!" ≡ None

pub lookups : Lookups
unfolding lower pair code_of folds_from spaced squeeze compared equals matches match_from
lookups = record { first = refl; blanks = refl; unequal = refl; no_rows = refl; escape = refl; no_escape = refl }

-- of the two equal labels, one of the note and one of the sheet, the first is found, in the table that the two rows fill; and each in its own text
abbrev looked : List Listed → ℕ → Option ℕ
looked js n = row_of T (filled T js (replicate n 9)) (ascii "Max") 2

pub record TableLookups : Type 0 where
  pub note_first : looked (max ∷ stale ∷ []) 17 ≡ Some 0
  pub own_text : looked (past_end ∷ stale ∷ []) 16 ≡ Some 1

pub table_lookups : TableLookups
unfolding feeds line_of Rows.filled Rows.rows listed_from row_of lower pair code_of folds_from spaced squeeze compared equals matches match_from
table_lookups = record { note_first = refl; own_text = refl }
