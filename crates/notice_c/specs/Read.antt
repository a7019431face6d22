-- What the exported reader promises: the reader's answer in numbers, and what all lent memory holds at exit.
use Rattle.std.specs.Prelude.{ℕ, ◌≡◌, List, [], ◌∷◌, Bool, not, eqb}
use Rattle.texts.specs.Texts.{Texts}
use Rattle.row.specs.Row as definition_table
use Rattle.span.specs.Row as span_table
use Rattle.notice.specs.Answers.{Reading, number_of, value_of, named_of, definition_count, span_count}
use Rattle.notice.specs.Reading.{reading_of, definition_table_of, span_table_of}

-- a number as a yes-or-no setting: 0 is no, any other number yes
abbrev pub is_yes : ℕ → Bool
is_yes n = not (eqb n 0)

-- the reader's answer, for a release or not, to the texts T with the definition table t and the span table u
abbrev pub reading : ℕ → Texts → List ℕ → List ℕ → Reading
reading release T t u = reading_of (is_yes release) T (definition_table.whole_rows t) (span_table.whole_rows u)

-- the value, then "the counts of definitions and spans", then the text
abbrev pub numbers_of : Reading → List ℕ
numbers_of r = value_of r ∷ definition_count r ∷ span_count r ∷ named_of r ∷ []

-- The call returns `number` and leaves T', t' and u' and the four numbers `answer`.
pub record ReadPromise (release : ℕ) (T : Texts) (t u : List ℕ) (number : ℕ) (T' : Texts) (t' u' answer : List ℕ) : Type 0 where
  pub answered : number ≡ number_of (reading release T t u)
  pub numbers : answer ≡ numbers_of (reading release T t u)
  pub definitions : t' ≡ definition_table_of T (number_of (reading release T t u)) t
  pub spans : u' ≡ span_table_of T (number_of (reading release T t u)) u
  pub texts : T' ≡ T
