-- The answer after refusals 1 to 3, and after 9.
use Rattle.std.specs.Prelude.{ℕ, ◌≡◌, List, Bool, length, Result, Ok, Err}
use Rattle.texts.specs.Texts.{Texts}
use Rattle.conflict.specs.Reading.{first_conflict}
use Rattle.span.specs.Row as span_table
use Rattle.note.specs.Reading.{span_rows, first_deep}
use Rattle.notice.specs.declared.Refusal.{Refusal}
use Rattle.notice.specs.declared.Listed.{Listed}
use Rattle.notice.specs.Answers.{Reading, counts, number_of}
use Rattle.notice.specs.Reading.{with_spans, with_conflicts, span_table_of}

-- the answer by the number of spans or a refusal, where there are `count` definitions
abbrev pub with_count : ℕ → Result ℕ Refusal → Reading
with_count count (Ok n) = Ok (counts count n)
with_count count (Err r) = Err r

-- the answer without the number of paragraphs
abbrev pub reading_in : Result Listed Refusal → Reading
reading_in (Ok listed) = Ok listed.counts
reading_in (Err r) = Err r

-- after refusals 1 to 3 and 9, where the joined list has `count` definitions, and the table u has become u'
pub record SpansRead (T : Texts) (count : ℕ) (u : List ℕ) (r : Reading) (u' : List ℕ) : Type 0 where
  pub answer : r ≡ with_spans count (first_deep T) (length (span_rows T)) (span_table.whole_rows u)
  pub spans : u' ≡ span_table_of T (number_of r) u

-- after refusals 1 to 3, for a release or not
pub record JoinedRead (release : Bool) (T : Texts) (count : ℕ) (u : List ℕ) (r : Reading) (u' : List ℕ) : Type 0 where
  pub answer : r ≡ with_conflicts release (first_conflict T) count (first_deep T) (length (span_rows T)) (span_table.whole_rows u)
  pub spans : u' ≡ span_table_of T (number_of r) u
