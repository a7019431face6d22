-- The reader's answer and the two tables at exit, as they are computed from the two texts and from what was lent.
use Rattle.std.specs.Prelude.{ℕ, ◌+◌, List, Bool, true, false, cond, length, ltb, eqb, None, Option as Place, Some, Ok, Err}
use Rattle.std.proofs.Math.Option.{Option, none, some}
use Rattle.scan.specs.Byte.{within}
use Rattle.texts.specs.declared.Fault.{Fault}
use Rattle.texts.specs.declared.Fault.TheVariants as texts
use Rattle.texts.specs.Texts.{Texts}
use Rattle.texts.specs.Reading.{Checked, check_of}
use Rattle.row.specs.Row as definition_table
use Rattle.joined.specs.Reading.{joined}
use Rattle.conflict.specs.Reading.{first_conflict}
use Rattle.note.specs.Reading.{span_rows, first_deep}
use Rattle.paragraphs.specs.Spans.{spans_filled}
use Rattle.notice.specs.declared.Refusal.{Refusal}
use Rattle.notice.specs.declared.Refusal.TheVariants.{Long, Bad, FewDefinitions, Conflicting, Deep, FewSpans}
use Rattle.notice.specs.Answers.{Reading, counts}

-- ---- the answer: each refusal, or what is said where it does not apply
abbrev pub of_fault : Fault → Refusal
of_fault (texts.Long x n) = Long x n
of_fault (texts.Bad x k) = Bad x k

abbrev pub bad_or : Checked → Reading → Reading
bad_or (Ok done) r = r
bad_or (Err f) r = Err (of_fault f)

abbrev pub deep_or : Option ℕ → Reading → Reading
deep_or none r = r
deep_or (some place) r = Err (Deep place)

abbrev pub few_or : ℕ → ℕ → (ℕ → Refusal) → Reading → Reading
few_or lent needed refusal r = cond (ltb lent needed) (Err (refusal needed)) r

-- "With yes, refusal 9", and the row number from 1 of the definition that is found
abbrev pub conflict_or : Bool → Place ℕ → Reading → Reading
conflict_or true (Some k) r = Err (Conflicting (k + 1))
conflict_or true None r = r
conflict_or false found r = r

-- after refusals 1 to 3 and 9: d definitions, the first bracket too many, if there is one, and n spans
abbrev pub with_spans : ℕ → Option ℕ → ℕ → ℕ → Reading
with_spans d deep n rows_of_spans = deep_or deep (few_or rows_of_spans n FewSpans (Ok (counts d n)))

-- after refusals 1 to 3: for a release or not, the definition that conflicts, if one is found
abbrev pub with_conflicts : Bool → Place ℕ → ℕ → Option ℕ → ℕ → ℕ → Reading
with_conflicts release found d deep n rows_of_spans = conflict_or release found (with_spans d deep n rows_of_spans)

-- after refusals 1 and 2, where nothing is said of conflicts
abbrev pub without_conflicts : ℕ → Option ℕ → ℕ → ℕ → ℕ → Reading
without_conflicts d deep n definition_rows rows_of_spans = few_or definition_rows d FewDefinitions (with_spans d deep n rows_of_spans)

-- after refusals 1 and 2
abbrev pub with_definitions : Bool → Place ℕ → ℕ → Option ℕ → ℕ → ℕ → ℕ → Reading
with_definitions release found d deep n definition_rows rows_of_spans = few_or definition_rows d FewDefinitions (with_conflicts release found d deep n rows_of_spans)

-- "The first that applies, in order 1 to 6, is the answer", and 9 is "Checked after 3": where so many whole rows of each table are lent
unfoldable pub reading_of : Bool → Texts → ℕ → ℕ → Reading
reading_of release T definition_rows rows_of_spans =
    bad_or (check_of T) (with_definitions release (first_conflict T) (length (joined T)) (first_deep T) (length (span_rows T)) definition_rows rows_of_spans)

-- ---- the tables at exit
-- after an answer with this number, whether the reader's or the page writer's
-- "After 1, 2, 3 all lent memory is unchanged. After 4 or 5 the definition table holds its rows"; after 9 too, "definition table filled": t is the table at entry
abbrev pub definition_table_of : Texts → ℕ → List ℕ → List ℕ
definition_table_of T number t = cond (within 1 3 number) t (definition_table.filled T (joined T) t)

-- "Span rows are given on success and after 6."
abbrev pub spans_given : ℕ → Bool
spans_given number = cond (eqb number 0) true (eqb number 6)

-- "After 4 or 5 .. the span table is unchanged.", and after 9, "span table and page unchanged": u is the table at entry
abbrev pub span_table_of : Texts → ℕ → List ℕ → List ℕ
span_table_of T number u = cond (spans_given number) (spans_filled (span_rows T) u) u
