-- Which answer the reader gives to a note and the sheet beside it, for a release or not, where so many whole definition rows and span rows are lent. Document 01,
-- "Refusal numbers", and document 02, requests 1 and 8.
use Rattle.std.specs.Prelude.{ℕ, ◌≤◌, ◌<◌, ◌≡◌, List, Bool, true, length, Result, Ok, Err}
use Rattle.std.proofs.Math.Option.{some}
use Rattle.std.proofs.Math.ListN.{get_elem?}
use Rattle.text.specs.Utf8.{FirstBad}
use Rattle.texts.specs.Texts.{Texts, text_of}
use Rattle.texts.specs.Answers.{Due1, Due2, GoodTexts}
use Rattle.marking.specs.Marking.{Marking}
use Rattle.marking.specs.Open.{open_brackets}
use Rattle.block.specs.Block.{Placed}
use Rattle.row.specs.Row.{Listed}
use Rattle.joined.specs.Joined.{JoinedIs}
use Rattle.conflict.specs.Conflict.{Conflict, NoConflict, FirstConflict}
use Rattle.inline.specs.Tails.{Tail}
use Rattle.note.specs.Note.{depth_limit, Marked, EachRowOnce, FirstDeep, NeverDeep}
use Rattle.notice.specs.declared.Counts.{Counts}
use Rattle.notice.specs.declared.Refusal.{Refusal}
use Rattle.notice.specs.declared.Refusal.TheVariants.{Long, Bad, FewDefinitions, Conflicting, Deep, FewSpans}

-- ---- document 01's numbers of an answer
-- the counts of definitions and spans, or a refusal
abbrev pub Reading : Type 0
Reading = Result Counts Refusal

abbrev pub counts : ℕ → ℕ → Counts
counts d n = record { definitions = d; spans = n }

-- the refusals of the reader
abbrev pub refusal_number : Refusal → ℕ
refusal_number (Long x n) = 1
refusal_number (Bad x k) = 2
refusal_number (FewDefinitions n) = 3
refusal_number (Conflicting n) = 9
refusal_number (Deep k) = 4
refusal_number (FewSpans n) = 5

-- "Success is number 0"
abbrev pub number_of : Reading → ℕ
number_of (Ok c) = 0
number_of (Err r) = refusal_number r

-- "Returned with it"
abbrev pub refusal_value : Refusal → ℕ
refusal_value (Long x n) = n
refusal_value (Bad x k) = k
refusal_value (FewDefinitions n) = n
refusal_value (Conflicting n) = n
refusal_value (Deep k) = k
refusal_value (FewSpans n) = n

abbrev pub value_of : Reading → ℕ
value_of (Ok c) = 0
value_of (Err r) = refusal_value r

-- "with the counts of definitions and spans"
abbrev pub definition_count : Reading → ℕ
definition_count (Ok c) = c.definitions
definition_count (Err r) = 0

abbrev pub span_count : Reading → ℕ
span_count (Ok c) = c.spans
span_count (Err r) = 0

-- "say which text, 0 the note, 1 the sheet; an answer about neither says 0"
abbrev pub refusal_text : Refusal → ℕ
refusal_text (Long x n) = x
refusal_text (Bad x k) = x
refusal_text (FewDefinitions n) = 0
refusal_text (Conflicting n) = 0
refusal_text (Deep k) = 0
refusal_text (FewSpans n) = 0

abbrev pub named_of : Reading → ℕ
named_of (Ok c) = 0
named_of (Err r) = refusal_text r

-- ---- what is counted
-- the texts have so many definitions, "repeats too": "Refusal 3 counts both."
pub record DefinitionsCounted (T : Texts) (count : ℕ) : Type 0 where
  pub list : List Listed
  pub paragraphs : List Placed
  pub joins : JoinedIs T list paragraphs
  pub counted : length list ≡ count

-- the note has so many spans
pub record SpansCounted (T : Texts) (count : ℕ) : Type 0 where
  pub rows : List (List ℕ)
  pub each_once : EachRowOnce T rows
  pub counted : length rows ≡ count

-- "fewer whole definition rows lent than definitions", "fewer whole span rows lent than spans"
pub record Fewer (lent : ℕ) (Counted : ℕ → Type 0) : Type 0 where
  pub needed : ℕ
  pub counted : Counted needed
  pub fewer : lent < needed

-- not fewer
pub record Enough (lent : ℕ) (Counted : ℕ → Type 0) : Type 0 where
  pub needed : ℕ
  pub counted : Counted needed
  pub enough : needed ≤ lent

-- 9: "With yes, .. two definitions with equal labels (in the note, the sheet or one in each) differ", definition k from an earlier one
pub record SomeConflict (release : Bool) (T : Texts) : Type 0 where
  pub yes : release ≡ true
  pub list : List Listed
  pub paragraphs : List Placed
  pub joins : JoinedIs T list paragraphs
  pub index : ℕ
  pub conflict : Conflict list T index

-- the setting is no, or no two definitions do
pub record Passes (release : Bool) (T : Texts) : Type 0 where
  pub list : List Listed
  pub paragraphs : List Placed
  pub joins : JoinedIs T list paragraphs
  pub none : release ≡ true → NoConflict list T

-- "the row number, from 1, of the first definition that so differs from an earlier one of equal label"
pub record ConflictRow (T : Texts) (row : ℕ) : Type 0 where
  pub list : List Listed
  pub paragraphs : List Placed
  pub joins : JoinedIs T list paragraphs
  pub first : FirstConflict list T row

-- 4: some paragraph of the note has over `depth_limit` brackets open at once
pub record SomeDeep (T : Texts) : Type 0 where
  pub marked : Marked T
  pub index : ℕ
  pub marking : Marking Tail
  pub marking_at : get_elem? marked.markings index ≡ some marking
  pub point : ℕ
  pub over : depth_limit < open_brackets marking point

-- ---- "Given exactly when", where "The first that applies, in order 1 to 6, is the answer", and 9 is "Checked after 3": each where none before it applies; 1 and 2 are
-- due for a text by `Due1` and `Due2` of the two texts
module _ (release : Bool) (T : Texts) (definition_rows rows_of_spans : ℕ) where
  abbrev pub Due3 : Type 0
  Due3 = GoodTexts T × Fewer definition_rows (DefinitionsCounted T)

  abbrev pub Due9 : Type 0
  Due9 = GoodTexts T × Enough definition_rows (DefinitionsCounted T) × SomeConflict release T

  abbrev pub Due4 : Type 0
  Due4 = GoodTexts T × Enough definition_rows (DefinitionsCounted T) × Passes release T × SomeDeep T

  abbrev pub Due5 : Type 0
  Due5 = GoodTexts T × Enough definition_rows (DefinitionsCounted T) × Passes release T × NeverDeep T × Fewer rows_of_spans (SpansCounted T)

  -- success
  abbrev pub Due0 : Type 0
  Due0 = GoodTexts T × Enough definition_rows (DefinitionsCounted T) × Passes release T × NeverDeep T × Enough rows_of_spans (SpansCounted T)

  -- the answer, with what is "Returned with it"
  pub data Answers : Reading → Type 0 where
    -- "its length"
    long : {x : ℕ} → Due1 T x → Answers (Err (Long x (length (text_of T x))))
    -- "where reading from the start first meets no good character"
    bad : {x place : ℕ} → Due2 T x → FirstBad (text_of T x) place → Answers (Err (Bad x place))
    -- "rows needed"
    few_definitions : (due : Due3) → Answers (Err (FewDefinitions due.1.needed))
    -- "the row number, from 1"
    conflicting : {row : ℕ} → Due9 → ConflictRow T row → Answers (Err (Conflicting row))
    -- "place of the first bracket too many"
    deep : {place : ℕ} → Due4 → FirstDeep T place → Answers (Err (Deep place))
    -- "rows needed"
    few_spans : (due : Due5) → Answers (Err (FewSpans due.4.needed))
    -- "with the counts of definitions and spans"
    read : (due : Due0) → Answers (Ok (counts due.1.needed due.4.needed))
