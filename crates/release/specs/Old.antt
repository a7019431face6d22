-- The answers, and what they leave in what was lent, as they were before there was a release setting: by definitions that say nothing of conflicts.
use Rattle.std.specs.Prelude.{ℕ, List, ◌++◌, cond, length, drop, eqb}
use Rattle.scan.specs.Byte.{within}
use Rattle.texts.specs.Texts.{Texts}
use Rattle.texts.specs.Reading.{check_of}
use Rattle.row.specs.Row as definition_table
use Rattle.joined.specs.Reading.{joined}
use Rattle.note.specs.Reading.{span_rows, first_deep}
use Rattle.page.specs.Reading.{page_of}
use Rattle.paragraphs.specs.Spans.{spans_filled}
use Rattle.notice.specs.Answers.{Reading}
use Rattle.notice.specs.Reading.{bad_or, without_conflicts}
use Rattle.rendering.specs.Answers.{Rendering}
use Rattle.rendering.specs.Reading.{after_reading}

-- "The first that applies, in order 1 to 6, is the answer"
unfoldable pub reading_of : Texts → ℕ → ℕ → Reading
reading_of T definition_rows rows_of_spans = bad_or (check_of T) (without_conflicts (length (joined T)) (first_deep T) (length (span_rows T)) definition_rows rows_of_spans)

unfoldable pub rendering_of : Texts → ℕ → ℕ → ℕ → Rendering
rendering_of T definition_rows rows_of_spans room = after_reading (length (page_of T)) room (reading_of T definition_rows rows_of_spans)

-- ---- after an answer, whose number is one of 0 to 6
-- "After 1, 2, 3 all lent memory is unchanged. After 4 or 5 the definition table holds its rows"
abbrev pub definition_table_of : Texts → ℕ → List ℕ → List ℕ
definition_table_of T number t = cond (within 1 3 number) t (definition_table.filled T (joined T) t)

-- "After 4 or 5 .. the span table is unchanged.", "Span rows are given on success and after 6."
abbrev pub span_table_of : Texts → ℕ → List ℕ → List ℕ
span_table_of T number u = cond (within 1 5 number) u (spans_filled (span_rows T) u)

-- "After 6 both tables hold their rows and the page buffer is unchanged."
abbrev pub page_buffer_of : Texts → ℕ → List ℕ → List ℕ
page_buffer_of T number p = cond (eqb number 0) (page_of T ++ drop (length (page_of T)) p) p
