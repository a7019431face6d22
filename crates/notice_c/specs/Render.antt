-- What the exported page writer promises: the page writer's answer in numbers, and what all lent memory holds at exit.
use Rattle.std.specs.Prelude.{ℕ, ◌≡◌, List, [], ◌∷◌, length}
use Rattle.texts.specs.Texts.{Texts}
use Rattle.row.specs.Row as definition_table
use Rattle.span.specs.Row as span_table
use Rattle.notice.specs.Reading.{definition_table_of, span_table_of}
use Rattle.rendering.specs.Answers.{Rendering, number_of, value_of, named_of, definition_count, span_count, page_length}
use Rattle.rendering.specs.Reading.{rendering_of, page_buffer_of}
use Rattle.notice_c.specs.Read.{is_yes}

-- the page writer's answer, for a release or not, to the texts T with the definition table t, the span table u and the page buffer p
abbrev pub rendering : ℕ → Texts → List ℕ → List ℕ → List ℕ → Rendering
rendering release T t u p = rendering_of (is_yes release) T (definition_table.whole_rows t) (span_table.whole_rows u) (length p)

-- the value, then "the counts of definitions and spans, from the page writer also the HTML's length", then the text
abbrev pub numbers_of : Rendering → List ℕ
numbers_of r = value_of r ∷ definition_count r ∷ span_count r ∷ page_length r ∷ named_of r ∷ []

-- The call returns `number` and leaves T', t', u' and p' and the five numbers `answer`.
pub record RenderPromise (release : ℕ) (T : Texts) (t u p : List ℕ) (number : ℕ) (T' : Texts) (t' u' p' answer : List ℕ) : Type 0 where
  pub answered : number ≡ number_of (rendering release T t u p)
  pub numbers : answer ≡ numbers_of (rendering release T t u p)
  pub definitions : t' ≡ definition_table_of T (number_of (rendering release T t u p)) t
  pub spans : u' ≡ span_table_of T (number_of (rendering release T t u p)) u
  pub page : p' ≡ page_buffer_of T (rendering release T t u p) p
  pub texts : T' ≡ T
