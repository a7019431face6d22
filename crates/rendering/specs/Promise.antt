-- What the page writer promises: its answer, the two tables and the page buffer at exit, as definitions of the two texts and of what was lent. Document 01, "Refusal numbers".
use Rattle.std.specs.Prelude.{ℕ, ◌≡◌, List, Bool, length}
use Rattle.texts.specs.Texts.{Texts}
use Rattle.row.specs.Row as definition_table
use Rattle.span.specs.Row as span_table
use Rattle.notice.specs.Reading.{definition_table_of, span_table_of}
use Rattle.rendering.specs.Answers.{Rendering, number_of, value_of, named_of, definition_count, span_count, page_length}
use Rattle.rendering.specs.Reading.{rendering_of, page_buffer_of}

-- the answer, for a release or not, to the texts T with the definition table t, the span table u and the page buffer p
abbrev pub answer_to : Bool → Texts → List ℕ → List ℕ → List ℕ → Rendering
answer_to release T t u p = rendering_of release T (definition_table.whole_rows t) (span_table.whole_rows u) (length p)

-- For these the page writer answers r and leaves T', t', u' and p'.
pub record Promise (release : Bool) (T : Texts) (t u p : List ℕ) (r : Rendering) (T' : Texts) (t' u' p' : List ℕ) : Type 0 where
  pub answer : r ≡ answer_to release T t u p
  -- its number, and what is "Returned with it"
  pub number : number_of r ≡ number_of (answer_to release T t u p)
  pub value : value_of r ≡ value_of (answer_to release T t u p)
  pub named : named_of r ≡ named_of (answer_to release T t u p)
  -- "with the counts of definitions and spans, from the page writer also the HTML's length"
  pub definitions_counted : definition_count r ≡ definition_count (answer_to release T t u p)
  pub spans_counted : span_count r ≡ span_count (answer_to release T t u p)
  pub page_measured : page_length r ≡ page_length (answer_to release T t u p)
  -- what was lent
  pub definitions : t' ≡ definition_table_of T (number_of r) t
  pub spans : u' ≡ span_table_of T (number_of r) u
  pub page : p' ≡ page_buffer_of T r p
  pub texts : T' ≡ T
