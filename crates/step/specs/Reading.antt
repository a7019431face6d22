-- A paragraph's spans, and a table in which their rows are stored as far as they fit.
use Rattle.std.specs.Prelude.{ℕ, List, map}
use Rattle.marking.specs.ReadingSpans.{spans}
use Rattle.rows.specs.Rows
use Rattle.row.specs.declared.Definition.{Definition}
use Rattle.row.specs.declared.listing.Definitions.{Definitions}
use Rattle.row.specs.Reading.{definitions_from}
use Rattle.span.specs.declared.Span.{Span}
use Rattle.span.specs.Row.{width, numbers}
use Rattle.inline.specs.Reading.{grammar}
use Rattle.inline.specs.ReadingRows.{row_for}

-- the definitions of the rows of a definition table
abbrev pub all_definitions : Definitions → List Definition
all_definitions d = definitions_from d.table.now 0 d.count

-- all spans that are read, in order
abbrev pub rows_for : ℕ → List ℕ → List (List ℕ) → List Definition → List Span
rows_for offset p labels ds = map (row_for offset p ds) (spans (grammar p labels))

-- the table t with the rows of these spans of the note s from row k on, as far as they fit
abbrev pub stored_all : List ℕ → List ℕ → ℕ → List Span → List ℕ
stored_all s = Rows.stored_all width (numbers s)
