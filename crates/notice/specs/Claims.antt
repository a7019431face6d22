-- What is claimed of the reader's answer and of the tables it leaves, for every note, every sheet and every two tables.
use Rattle.std.specs.Prelude.{ℕ, ◌*◌, ◌≤◌, ◌≡◌, ◌↔◌, List, ◌++◌, Bool, true, length, get_or, drop}
use Rattle.refusal.specs.Given.{Given, GivenFor}
use Rattle.text.specs.Utf8.{FirstBad}
use Rattle.scan.specs.Member.{In}
use Rattle.texts.specs.Texts.{Texts, text_of}
use Rattle.texts.specs.Answers.{Due1, Due2}
use Rattle.block.specs.Block.{Placed}
use Rattle.row.specs.Row.{Listed}
use Rattle.row.specs.Row as definition_table
use Rattle.joined.specs.Joined.{JoinedIs}
use Rattle.span.specs.Row as span_table
use Rattle.note.specs.Note.{EachRowOnce, FirstDeep}
use Rattle.note.specs.Claims.{RefersTo}
use Rattle.paragraphs.specs.Spans.{span_numbers}
use Rattle.notice.specs.Answers.{Reading, number_of, value_of, named_of, definition_count, span_count, DefinitionsCounted, SpansCounted, ConflictRow, Due0, Due3, Due4, Due5, Due9, Answers}

-- Demand 1 of the answer r to the texts T, for a release or not, where so many whole rows of each table are lent.
pub record Demand1 (release : Bool) (T : Texts) (definition_rows rows_of_spans : ℕ) (r : Reading) : Type 0 where
  -- for each text: "refusals 1 and 2 are checked on the note, then both on the sheet, and say which text"
  pub line_1 : (x : ℕ) → GivenFor (number_of r) (named_of r) (value_of r) 1 x (Due1 T x) (λ v. v ≡ length (text_of T x))
  pub line_2 : (x : ℕ) → GivenFor (number_of r) (named_of r) (value_of r) 2 x (Due2 T x) (FirstBad (text_of T x))
  pub line_3 : Given (number_of r) (value_of r) 3 (Due3 release T definition_rows rows_of_spans) (DefinitionsCounted T)
  pub line_4 : Given (number_of r) (value_of r) 4 (Due4 release T definition_rows rows_of_spans) (FirstDeep T)
  pub line_5 : Given (number_of r) (value_of r) 5 (Due5 release T definition_rows rows_of_spans) (SpansCounted T)
  -- "Demand 1's list takes in refusal 9"
  pub line_9 : Given (number_of r) (value_of r) 9 (Due9 release T definition_rows rows_of_spans) (ConflictRow T)
  -- "Success is number 0 with the counts of definitions and spans"
  pub success : Given (number_of r) (value_of r) 0 (Due0 release T definition_rows rows_of_spans) (λ v. v ≡ 0)
  pub definitions_counted : number_of r ≡ 0 → DefinitionsCounted T (definition_count r)
  pub spans_counted : number_of r ≡ 0 → SpansCounted T (span_count r)
  -- "an answer about neither says 0"
  pub names_neither : (number_of r ≡ 1 → ⊥) → (number_of r ≡ 2 → ⊥) → named_of r ≡ 0
  -- all of it at once
  pub answers : (x : Reading) → (r ≡ x) ↔ Answers release T definition_rows rows_of_spans x

-- ---- the tables
-- Demand 2 of definitions: the table t has become t'. "All definitions stand there in note order, repeats too", the note's and then the sheet's.
pub record DefinitionRows (T : Texts) (t t' : List ℕ) : Type 0 where
  pub list : List Listed
  pub paragraphs : List Placed
  pub joins : JoinedIs T list paragraphs
  pub fit : length list ≤ definition_table.whole_rows t
  -- "numbers .. past the part in use are unchanged"
  pub holds : t' ≡ definition_table.rows T list ++ drop (length list * definition_table.width) t

-- Demand 3, and demand 2 of references: the table u has become u'.
pub record SpanRows (T : Texts) (u u' : List ℕ) : Type 0 where
  pub rows : List (List ℕ)
  -- those of the links, images and code spans in the markings, each once, no others
  pub each_once : EachRowOnce T rows
  pub no_other_rows : (others : List (List ℕ)) → EachRowOnce T others → others ≡ rows
  -- rows of the kinds 3, 4 and 5, and 7, 8 and 9: "Lookup takes the note's definitions first, then the sheet's, first equal label wins"
  pub refer : (row : List ℕ) → In row rows → span_table.is_reference (get_or row 0 0) ≡ true → RefersTo T each_once.marked.list row
  pub fit : length rows ≤ span_table.whole_rows u
  pub holds : u' ≡ span_numbers rows ++ drop (length rows * span_table.width) u

-- what the tables t and u hold after the answer r
pub record Tables (T : Texts) (t u : List ℕ) (r : Reading) (t' u' : List ℕ) : Type 0 where
  -- "After 1, 2, 3 all lent memory is unchanged."
  pub unchanged : 1 ≤ number_of r → number_of r ≤ 3 → (t' ≡ t) × (u' ≡ u)
  -- "After 4 or 5 the definition table holds its rows and the span table is unchanged."; after 9, "definition table filled, span table .. unchanged"
  pub definitions_only : 4 ≤ number_of r → DefinitionRows T t t' × (u' ≡ u)
  pub success : number_of r ≡ 0 → DefinitionRows T t t' × SpanRows T u u'
  -- no table grows or shrinks
  pub definitions_size : length t' ≡ length t
  pub spans_size : length u' ≡ length u

-- two results of one call are equal in every number
pub record Same (r : Reading) (t' u' : List ℕ) (r₂ : Reading) (t₂ u₂ : List ℕ) : Type 0 where
  pub answer : r ≡ r₂
  pub number : number_of r ≡ number_of r₂
  pub value : value_of r ≡ value_of r₂
  pub named : named_of r ≡ named_of r₂
  pub definitions_counted : definition_count r ≡ definition_count r₂
  pub spans_counted : span_count r ≡ span_count r₂
  pub definitions : t' ≡ t₂
  pub spans : u' ≡ u₂
