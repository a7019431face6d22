-- Span rows, and what a table of them holds.
use Rattle.std.specs.Prelude.{ℕ, ◌+◌, ◌*◌, ◌<◌, ◌^◌, Bool, ◌||◌, List, [], ◌∷◌, eqb, take, drop}
use Rattle.scan.specs.Byte.{within}
use Rattle.line.specs.Line.{line_of}
use Rattle.rows.specs.Rows
use Rattle.row.specs.declared.Range.{Range}
use Rattle.row.specs.Row.{absent, SmallPart}
use Rattle.span.specs.declared.Span.{Span}

-- "Span table, ten 32-bit numbers a row", and document 02, request 9: "Each .. span row gets one more number at its end"
abbrev pub width : ℕ
width = 11

-- "kind, start, end, text start, text end, definition number (from 1; 0 if none), destination start and end, title start and end", and the line
abbrev pub numbers_on : ℕ → Span → List ℕ
numbers_on line x =
    x.kind
    ∷ x.whole.start
    ∷ x.whole.end
    ∷ x.text.start
    ∷ x.text.end
    ∷ x.definition
    ∷ x.destination.start
    ∷ x.destination.end
    ∷ x.title.start
    ∷ x.title.end
    ∷ line
    ∷ []

-- the row of a span of the note s: "the line .. of the span's start"
abbrev pub numbers : List ℕ → Span → List ℕ
numbers s x = numbers_on (line_of s x.whole.start) x

-- ---- the nine kinds: "The five kinds of row have fixed numbers: 1 code span, 2 inline, 3 full, 4 collapsed, 5 shortcut", and document 02, request 5: "with kinds
-- 6 inline, 7 full, 8 collapsed, 9 shortcut"
abbrev pub code_span_kind : ℕ
code_span_kind = 1

abbrev pub inline_kind : ℕ
inline_kind = 2

abbrev pub full_kind : ℕ
full_kind = 3

abbrev pub collapsed_kind : ℕ
collapsed_kind = 4

abbrev pub shortcut_kind : ℕ
shortcut_kind = 5

abbrev pub inline_image_kind : ℕ
inline_image_kind = 6

abbrev pub full_image_kind : ℕ
full_image_kind = 7

abbrev pub collapsed_image_kind : ℕ
collapsed_image_kind = 8

abbrev pub shortcut_image_kind : ℕ
shortcut_image_kind = 9

-- of a full reference, a link or an image
abbrev pub is_full : ℕ → Bool
is_full kind = eqb kind full_kind || eqb kind full_image_kind

-- of a reference: full, collapsed or shortcut
abbrev pub is_reference : ℕ → Bool
is_reference kind = within full_kind shortcut_kind kind || within full_image_kind shortcut_image_kind kind

abbrev pub span : ℕ → Range → Range → ℕ → Range → Range → Span
span k w x n d t = record { kind = k; whole = w; text = x; definition = n; destination = d; title = t }

abbrev pub code_span_row : Range → Range → Span
code_span_row whole text = span code_span_kind whole text 0 absent absent

abbrev pub inline_row : Range → Range → Range → Range → Span
inline_row whole text destination title = span inline_kind whole text 0 destination title

abbrev pub inline_image_row : Range → Range → Range → Range → Span
inline_image_row whole text destination title = span inline_image_kind whole text 0 destination title

-- "definition number (from 1; 0 if none)": of the definition in row k of the definition table, where rows count from 0
abbrev pub definition_number : ℕ → ℕ
definition_number k = k + 1

abbrev pub reference_row : ℕ → Range → Range → ℕ → Range → Range → Span
reference_row kind whole text k destination title = span kind whole text (definition_number k) destination title

abbrev pub full_row : Range → Range → ℕ → Range → Range → Span
full_row = reference_row full_kind

abbrev pub collapsed_row : Range → Range → ℕ → Range → Range → Span
collapsed_row = reference_row collapsed_kind

abbrev pub shortcut_row : Range → Range → ℕ → Range → Range → Span
shortcut_row = reference_row shortcut_kind

abbrev pub full_image_row : Range → Range → ℕ → Range → Range → Span
full_image_row = reference_row full_image_kind

abbrev pub collapsed_image_row : Range → Range → ℕ → Range → Range → Span
collapsed_image_row = reference_row collapsed_image_kind

abbrev pub shortcut_image_row : Range → Range → ℕ → Range → Range → Span
shortcut_image_row = reference_row shortcut_image_kind

-- ---- tables
abbrev pub rows : List ℕ → List Span → List ℕ
rows s = Rows.rows (numbers s)

-- "fewer whole span rows lent than spans"
abbrev pub whole_rows : List ℕ → ℕ
whole_rows t = Rows.whole_rows width t

-- the table after as many of these rows as fit were put in front
abbrev pub filled : List ℕ → List Span → List ℕ → List ℕ
filled s = Rows.filled width (numbers s)

-- the numbers of row k
abbrev pub row_at : List ℕ → ℕ → List ℕ
row_at t k = take width (drop (k * width) t)

-- a number and the two parts after it: the first five numbers of a row, or the five after them
abbrev pub stored_half : List ℕ → ℕ → ℕ → Range → Range → List ℕ
stored_half t at n a b = Rows.put t at (n ∷ a.start ∷ a.end ∷ b.start ∷ b.end ∷ [])

-- the table with the row of a span on this line as row k, if there is one
abbrev pub stored_on : ℕ → List ℕ → ℕ → Span → List ℕ
stored_on line = Rows.stored width (numbers_on line)

-- the same with the row of a span of the note s
abbrev pub stored : List ℕ → List ℕ → ℕ → Span → List ℕ
stored s = Rows.stored width (numbers s)

-- a span's places and its definition's number are 32-bit numbers
pub record Small (s : Span) : Type 0 where
  pub whole : SmallPart s.whole
  pub text : SmallPart s.text
  pub definition : s.definition < 2 ^ 32
  pub destination : SmallPart s.destination
  pub title : SmallPart s.title
