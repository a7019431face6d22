-- The answers for a note alone, and what is left in what was lent, by definitions that speak of one text.
use Rattle.std.specs.Prelude.{ℕ, List, ◌∷◌, ◌++◌, Bool, true, false, cond, length, get_or, drop, eqb, None, Option, Some, Err, Ok}
use Rattle.scan.specs.Byte.{within}
use Rattle.text.specs.declared.Fault.TheVariants as text
use Rattle.text.specs.Reading.{Checked, check_of}
use Rattle.texts.specs.Texts.{note_number}
use Rattle.rows.specs.Rows
use Rattle.row.specs.declared.Definition.{Definition}
use Rattle.row.specs.Row.{width, absent, definition}
use Rattle.row.specs.Reading.{first_match}
use Rattle.definition.specs.Reading.{definitions}
use Rattle.notice.specs.Answers.{Reading}
use Rattle.notice.specs.declared.Refusal.TheVariants as reader
use Rattle.paragraphs.specs.Spans.{spans_filled}
use Rattle.notice.specs.Reading.{without_conflicts}
use Rattle.rendering.specs.Answers.{Rendering, number_of}
use Rattle.rendering.specs.Reading.{after_reading}
use Rattle.enquiry.specs.declared.Refusal.TheVariants as enquiry
use Rattle.enquiry.specs.Enquiry.{Enquiry, destination_in}
use Rattle.enquiry.specs.Reading.{good_label}
use Rattle.sheet.specs.Alone.{numbers, labels, span_rows, first_deep, page_of}

-- ---- the reader: "The first that applies, in order 1 to 6, is the answer"
abbrev pub refused_or : Checked → Reading → Reading
refused_or (Ok done) r = r
refused_or (Err (text.Long n)) r = Err (reader.Long note_number n)
refused_or (Err (text.Bad k)) r = Err (reader.Bad note_number k)

unfoldable pub reading_of : List ℕ → ℕ → ℕ → Reading
reading_of s definition_rows rows_of_spans = refused_or (check_of s) (without_conflicts (length (definitions s)) (first_deep s) (length (span_rows s)) definition_rows rows_of_spans)

-- after an answer with this number: each row is the old one behind a leading 0
abbrev pub definition_table_of : List ℕ → ℕ → List ℕ → List ℕ
definition_table_of s number t = cond (within 1 3 number) t (Rows.filled width (λ d. 0 ∷ numbers s d) (definitions s) t)

abbrev pub span_table_of : List ℕ → ℕ → List ℕ → List ℕ
span_table_of s number u = cond (within 1 5 number) u (spans_filled (span_rows s) u)

-- ---- the page writer
unfoldable pub rendering_of : List ℕ → ℕ → ℕ → ℕ → Rendering
rendering_of s definition_rows rows_of_spans room = after_reading (length (page_of s)) room (reading_of s definition_rows rows_of_spans)

abbrev pub page_buffer_of : List ℕ → Rendering → List ℕ → List ℕ
page_buffer_of s r p = cond (eqb (number_of r) 0) (page_of s ++ drop (length (page_of s)) p) p

-- ---- the enquiry: the destination of the note's definition k
abbrev pub answer_at : List Definition → Option ℕ → Enquiry
answer_at ds (Some k) =
    let d : Definition = get_or ds k (definition absent absent absent) in destination_in note_number d.destination.start d.destination.end
answer_at ds None = Err enquiry.Undefined

abbrev pub labelled : List ℕ → List ℕ → Bool → Enquiry
labelled s label true = answer_at (definitions s) (first_match (labels s) label)
labelled s label false = Err enquiry.NotLabel

abbrev pub checked : List ℕ → List ℕ → Checked → Enquiry
checked s label (Err (text.Long n)) = Err (enquiry.Long note_number n)
checked s label (Err (text.Bad k)) = Err (enquiry.Bad note_number k)
checked s label (Ok done) = labelled s label (good_label label)

unfoldable pub enquiry_of : List ℕ → List ℕ → Enquiry
enquiry_of s label = checked s label (check_of s)
