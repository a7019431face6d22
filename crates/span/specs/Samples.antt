-- Span rows and tables of them, by computation.
use Rattle.std.specs.Prelude.{ℕ, ◌≡◌, refl, true, false, List, [], ◌∷◌, ◌++◌, map, replicate}
use Rattle.scan.specs.Ascii.{ascii}
use Rattle.line.specs.Line.{feeds, line_of}
use Rattle.rows.specs.Rows
use Rattle.row.specs.Row.{range, absent}
use Rattle.span.specs.Row.{numbers_on, code_span_row, inline_row, full_row, collapsed_row, shortcut_row, inline_image_row, full_image_row, collapsed_image_row, shortcut_image_row, is_full, is_reference, filled, row_at}
use Rattle.span.specs.Reading.{span_at, line_in}

-- ---- a row of each kind, on line 3
pub record SpanRows : Type 0 where
  -- `` `a b` `` at the note's start
  pub a_code_span : numbers_on 3 (code_span_row (range 0 5) (range 1 4)) ≡ 1 ∷ 0 ∷ 5 ∷ 1 ∷ 4 ∷ 0 ∷ 0 ∷ 0 ∷ 0 ∷ 0 ∷ 3 ∷ []
  -- `[a](/b "c")`, `[a](/b)`, `[a](<>)` and `[a]()`: empty parts have a place, absent ones are 0, 0
  pub inline_titled : numbers_on 3 (inline_row (range 0 11) (range 1 2) (range 4 6) (range 8 9)) ≡ 2 ∷ 0 ∷ 11 ∷ 1 ∷ 2 ∷ 0 ∷ 4 ∷ 6 ∷ 8 ∷ 9 ∷ 3 ∷ []
  pub inline_untitled : numbers_on 3 (inline_row (range 0 7) (range 1 2) (range 4 6) absent) ≡ 2 ∷ 0 ∷ 7 ∷ 1 ∷ 2 ∷ 0 ∷ 4 ∷ 6 ∷ 0 ∷ 0 ∷ 3 ∷ []
  pub inline_empty : numbers_on 3 (inline_row (range 0 7) (range 1 2) (range 5 5) absent) ≡ 2 ∷ 0 ∷ 7 ∷ 1 ∷ 2 ∷ 0 ∷ 5 ∷ 5 ∷ 0 ∷ 0 ∷ 3 ∷ []
  pub inline_bare : numbers_on 3 (inline_row (range 0 5) (range 1 2) absent absent) ≡ 2 ∷ 0 ∷ 5 ∷ 1 ∷ 2 ∷ 0 ∷ 0 ∷ 0 ∷ 0 ∷ 0 ∷ 3 ∷ []
  -- `[a][b]` and `[b][]` after a second definition `[b]: /c`
  pub a_full_row : numbers_on 3 (full_row (range 20 26) (range 21 22) 1 (range 16 18) absent) ≡ 3 ∷ 20 ∷ 26 ∷ 21 ∷ 22 ∷ 2 ∷ 16 ∷ 18 ∷ 0 ∷ 0 ∷ 3 ∷ []
  pub a_collapsed_row : numbers_on 3 (collapsed_row (range 20 25) (range 21 22) 1 (range 16 18) absent) ≡ 4 ∷ 20 ∷ 25 ∷ 21 ∷ 22 ∷ 2 ∷ 16 ∷ 18 ∷ 0 ∷ 0 ∷ 3 ∷ []
  -- "Span row 5 27 32 28 31 1 7 14 16 20.", and it gains 3
  pub a_shortcut_row : numbers_on 3 (shortcut_row (range 27 32) (range 28 31) 0 (range 7 14) (range 16 20)) ≡ 5 ∷ 27 ∷ 32 ∷ 28 ∷ 31 ∷ 1 ∷ 7 ∷ 14 ∷ 16 ∷ 20 ∷ 3 ∷ []
  -- the same as images: `![a](/b "c")`, and `![a][b]`, `![b][]` and `![b]` after the second definition; the text starts two bytes after the span
  pub inline_image : numbers_on 3 (inline_image_row (range 0 12) (range 2 3) (range 5 7) (range 9 10)) ≡ 6 ∷ 0 ∷ 12 ∷ 2 ∷ 3 ∷ 0 ∷ 5 ∷ 7 ∷ 9 ∷ 10 ∷ 3 ∷ []
  pub full_image : numbers_on 3 (full_image_row (range 20 27) (range 22 23) 1 (range 16 18) absent) ≡ 7 ∷ 20 ∷ 27 ∷ 22 ∷ 23 ∷ 2 ∷ 16 ∷ 18 ∷ 0 ∷ 0 ∷ 3 ∷ []
  pub collapsed_image : numbers_on 3 (collapsed_image_row (range 20 26) (range 22 23) 1 (range 16 18) absent) ≡ 8 ∷ 20 ∷ 26 ∷ 22 ∷ 23 ∷ 2 ∷ 16 ∷ 18 ∷ 0 ∷ 0 ∷ 3 ∷ []
  pub shortcut_image : numbers_on 3 (shortcut_image_row (range 20 24) (range 22 23) 1 (range 16 18) absent) ≡ 9 ∷ 20 ∷ 24 ∷ 22 ∷ 23 ∷ 2 ∷ 16 ∷ 18 ∷ 0 ∷ 0 ∷ 3 ∷ []

pub rows_of_spans : SpanRows
rows_of_spans = record {
  a_code_span = refl;
  inline_titled = refl;
  inline_untitled = refl;
  inline_empty = refl;
  inline_bare = refl;
  a_full_row = refl;
  a_collapsed_row = refl;
  a_shortcut_row = refl;
  inline_image = refl;
  full_image = refl;
  collapsed_image = refl;
  shortcut_image = refl;
}

-- ---- the kinds of references, and of full ones
abbrev kinds : List ℕ
kinds = 1 ∷ 2 ∷ 3 ∷ 4 ∷ 5 ∷ 6 ∷ 7 ∷ 8 ∷ 9 ∷ []

pub references : map is_reference kinds ≡ false ∷ false ∷ true ∷ true ∷ true ∷ false ∷ true ∷ true ∷ true ∷ []
references = refl

pub fulls : map is_full kinds ≡ false ∷ false ∷ true ∷ false ∷ false ∷ false ∷ true ∷ false ∷ false ∷ []
fulls = refl

-- ---- tables of n nines, filled with the rows of two spans
-- a link that starts on the first line and ends on the second, and a code span in its text
abbrev note : List ℕ
note = ascii "[a\n`b`](c)"

abbrev code : List ℕ
code = 1 ∷ 3 ∷ 6 ∷ 4 ∷ 5 ∷ 0 ∷ 0 ∷ 0 ∷ 0 ∷ 0 ∷ 2 ∷ []

abbrev link : List ℕ
link = 2 ∷ 0 ∷ 10 ∷ 1 ∷ 6 ∷ 0 ∷ 8 ∷ 9 ∷ 0 ∷ 0 ∷ 1 ∷ []

abbrev table : ℕ → List ℕ
table n = filled note (code_span_row (range 3 6) (range 4 5) ∷ inline_row (range 0 10) (range 1 6) (range 8 9) absent ∷ []) (replicate n 9)

pub record Tables : Type 0 where
  pub none : table 0 ≡ []
  pub short : table 10 ≡ replicate 10 9
  pub one : table 11 ≡ code
  pub one_and_more : table 12 ≡ code ++ 9 ∷ []
  pub one_and_ten : table 21 ≡ code ++ replicate 10 9
  pub two : table 22 ≡ code ++ link
  pub two_and_more : table 23 ≡ code ++ link ++ 9 ∷ []

pub tables : Tables
unfolding Rows.filled Rows.rows feeds line_of
tables = record { none = refl; short = refl; one = refl; one_and_more = refl; one_and_ten = refl; two = refl; two_and_more = refl }

-- ---- and read back
pub record ReadBack : Type 0 where
  pub first : span_at (code ++ link ++ 9 ∷ []) 0 ≡ code_span_row (range 3 6) (range 4 5)
  pub second : span_at (code ++ link ++ 9 ∷ []) 1 ≡ inline_row (range 0 10) (range 1 6) (range 8 9) absent
  pub lines : map (line_in (code ++ link ++ 9 ∷ [])) (0 ∷ 1 ∷ []) ≡ 2 ∷ 1 ∷ []
  pub second_row : row_at (code ++ link ++ 9 ∷ []) 1 ≡ link

pub read_back : ReadBack
read_back = record { first = refl; second = refl; lines = refl; second_row = refl }
