-- What the reader promises: its answer and the two tables at exit, as definitions of the two texts and of what was lent. Document 01, "Refusal numbers".
use Rattle.std.specs.Prelude.{ℕ, ◌≡◌, List, Bool}
use Rattle.texts.specs.Texts.{Texts}
use Rattle.row.specs.Row as definition_table
use Rattle.span.specs.Row as span_table
use Rattle.notice.specs.Answers.{Reading, number_of, value_of, named_of, definition_count, span_count}
use Rattle.notice.specs.Reading.{reading_of, definition_table_of, span_table_of}

-- the answer, for a release or not, where the tables t and u are lent
abbrev pub answer_to : Bool → Texts → List ℕ → List ℕ → Reading
answer_to release T t u = reading_of release T (definition_table.whole_rows t) (span_table.whole_rows u)

-- For this setting, the texts T, the definition table t and the span table u, the reader answers r and leaves T', t' and u'.
pub record Promise (release : Bool) (T : Texts) (t u : List ℕ) (r : Reading) (T' : Texts) (t' u' : List ℕ) : Type 0 where
  pub answer : r ≡ answer_to release T t u
  pub number : number_of r ≡ number_of (answer_to release T t u)
  pub value : value_of r ≡ value_of (answer_to release T t u)
  pub named : named_of r ≡ named_of (answer_to release T t u)
  pub definitions_counted : definition_count r ≡ definition_count (answer_to release T t u)
  pub spans_counted : span_count r ≡ span_count (answer_to release T t u)
  pub definitions : t' ≡ definition_table_of T (number_of r) t
  pub spans : u' ≡ span_table_of T (number_of r) u
  pub texts : T' ≡ T
