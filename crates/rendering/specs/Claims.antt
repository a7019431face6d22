-- What is claimed of the page writer's answer and of what it leaves in the tables and the page buffer, for every note, every sheet and whatever is lent.
use Rattle.std.specs.Prelude.{ℕ, ◌≤◌, ◌≡◌, ◌↔◌, ◌⊎◌, List, ◌++◌, Bool, length, take, drop}
use Rattle.refusal.specs.Given.{Given, GivenFor}
use Rattle.text.specs.Utf8.{FirstBad}
use Rattle.texts.specs.Texts.{Texts, text_of}
use Rattle.texts.specs.Answers.{Due1, Due2}
use Rattle.note.specs.Note.{FirstDeep}
use Rattle.page.specs.Page.{PageIs}
use Rattle.page.specs.ByRows.{ByRows}
use Rattle.notice.specs.Answers.{Reading}
use Rattle.notice.specs.Answers.{DefinitionsCounted, SpansCounted, ConflictRow, Due3, Due4, Due5, Due9}
use Rattle.notice.specs.Answers as reader
use Rattle.notice.specs.Claims.{DefinitionRows, SpanRows}
use Rattle.rendering.specs.Answers.{Rendering, number_of, value_of, named_of, definition_count, span_count, page_length, PageMeasured, Due0, Due6, Answers}

-- Demand 1 of the answer r to the texts T, for a release or not, where so many whole rows of each table and so many bytes are lent.
pub record Demand1 (release : Bool) (T : Texts) (definition_rows rows_of_spans room : ℕ) (r : Rendering) : Type 0 where
  -- for each text: "refusals 1 and 2 are checked on the note, then both on the sheet, and say which text"
  pub line_1 : (x : ℕ) → GivenFor (number_of r) (named_of r) (value_of r) 1 x (Due1 T x) (λ v. v ≡ length (text_of T x))
  pub line_2 : (x : ℕ) → GivenFor (number_of r) (named_of r) (value_of r) 2 x (Due2 T x) (FirstBad (text_of T x))
  pub line_3 : Given (number_of r) (value_of r) 3 (Due3 release T definition_rows rows_of_spans) (DefinitionsCounted T)
  pub line_4 : Given (number_of r) (value_of r) 4 (Due4 release T definition_rows rows_of_spans) (FirstDeep T)
  pub line_5 : Given (number_of r) (value_of r) 5 (Due5 release T definition_rows rows_of_spans) (SpansCounted T)
  pub line_6 : Given (number_of r) (value_of r) 6 (Due6 release T definition_rows rows_of_spans room) (PageMeasured T)
  -- "Demand 1's list takes in refusal 9"
  pub line_9 : Given (number_of r) (value_of r) 9 (Due9 release T definition_rows rows_of_spans) (ConflictRow T)
  -- "Success is number 0 with the counts of definitions and spans, from the page writer also the HTML's length."
  pub success : Given (number_of r) (value_of r) 0 (Due0 release T definition_rows rows_of_spans room) (λ v. v ≡ 0)
  pub definitions_counted : number_of r ≡ 0 → DefinitionsCounted T (definition_count r)
  pub spans_counted : number_of r ≡ 0 → SpansCounted T (span_count r)
  pub page_measured : number_of r ≡ 0 → PageMeasured T (page_length r)
  -- "an answer about neither says 0"
  pub names_neither : (number_of r ≡ 1 → ⊥) → (number_of r ≡ 2 → ⊥) → named_of r ≡ 0
  -- all of it at once
  pub answers : (x : Rendering) → (r ≡ x) ↔ Answers release T definition_rows rows_of_spans room x

-- ---- what was lent
-- the page buffer p has become p'
pub record PageHolds (T : Texts) (p p' : List ℕ) : Type 0 where
  pub page : List ℕ
  pub page_is : PageIs T page
  pub fits : length page ≤ length p
  -- "bytes past the part in use are unchanged"
  pub holds : p' ≡ page ++ drop (length page) p

-- what the tables t and u and the page buffer p hold after the answer r
pub record Buffers (T : Texts) (t u p : List ℕ) (r : Rendering) (t' u' p' : List ℕ) : Type 0 where
  -- "After 1, 2, 3 all lent memory is unchanged."
  pub unchanged : 1 ≤ number_of r → number_of r ≤ 3 → (t' ≡ t) × (u' ≡ u) × (p' ≡ p)
  -- "After 4 or 5 the definition table holds its rows and the span table is unchanged."
  pub definitions_only : 4 ≤ number_of r → number_of r ≤ 5 → DefinitionRows T t t' × (u' ≡ u) × (p' ≡ p)
  -- after 9: "definition table filled, span table and page unchanged"
  pub conflicting : number_of r ≡ 9 → DefinitionRows T t t' × (u' ≡ u) × (p' ≡ p)
  -- "After 6 both tables hold their rows and the page buffer is unchanged."
  pub tables_only : number_of r ≡ 6 → DefinitionRows T t t' × SpanRows T u u' × (p' ≡ p)
  pub success : number_of r ≡ 0 → DefinitionRows T t t' × SpanRows T u u' × PageHolds T p p'
  -- demand 2: "The HTML is the one that the rows call for", the rows that stand in the two tables, in the note's paragraphs
  pub by_rows : number_of r ≡ 0 → (d : DefinitionRows T t t') (v : SpanRows T u u') → ByRows T d.list v.rows d.paragraphs (take (page_length r) p')
  -- nothing that was lent grows or shrinks
  pub definitions_size : length t' ≡ length t
  pub spans_size : length u' ≡ length u
  pub page_size : length p' ≡ length p

-- two results of one call are equal in every number and byte
pub record Same (r : Rendering) (t' u' p' : List ℕ) (r₂ : Rendering) (t₂ u₂ p₂ : List ℕ) : Type 0 where
  pub answer : r ≡ r₂
  pub number : number_of r ≡ number_of r₂
  pub value : value_of r ≡ value_of r₂
  pub named : named_of r ≡ named_of r₂
  pub definitions_counted : definition_count r ≡ definition_count r₂
  pub spans_counted : span_count r ≡ span_count r₂
  pub page_measured : page_length r ≡ page_length r₂
  pub definitions : t' ≡ t₂
  pub spans : u' ≡ u₂
  pub page : p' ≡ p₂

-- "the reader gives 1 to 5, the page writer 1 to 6", and both give 9: the page writer's answer r and tables t' and u' beside the reader's, x, t₂ and u₂, for the same setting, texts and tables
pub record ReadsAlike (x : Reading) (t₂ u₂ : List ℕ) (r : Rendering) (t' u' : List ℕ) : Type 0 where
  -- the reader's refusals are the page writer's, and where the reader succeeds the page writer gives 0 or 6
  pub number : 1 ≤ reader.number_of x → number_of r ≡ reader.number_of x
  pub value : 1 ≤ reader.number_of x → value_of r ≡ reader.value_of x
  pub named : named_of r ≡ reader.named_of x
  pub read : reader.number_of x ≡ 0 → (number_of r ≡ 0) ⊎ (number_of r ≡ 6)
  pub definitions_counted : number_of r ≡ 0 → definition_count r ≡ reader.definition_count x
  pub spans_counted : number_of r ≡ 0 → span_count r ≡ reader.span_count x
  -- after every answer, 6 too
  pub definitions : t' ≡ t₂
  pub spans : u' ≡ u₂
