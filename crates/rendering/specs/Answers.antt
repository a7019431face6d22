-- Which answer the page writer gives to a note and the sheet beside it, for a release or not, where so many whole definition rows and span rows and so many bytes of a page buffer are lent. Document 01, "Refusal numbers", and document 02, requests 1 and 8.
use Rattle.std.specs.Prelude.{ℕ, ◌≡◌, List, Bool, length, Result, Ok, Err}
use Rattle.text.specs.Utf8.{FirstBad}
use Rattle.texts.specs.Texts.{Texts, text_of}
use Rattle.texts.specs.Answers.{Due1, Due2}
use Rattle.note.specs.Note.{FirstDeep}
use Rattle.page.specs.Page.{PageIs}
use Rattle.notice.specs.declared.Counts.{Counts}
use Rattle.notice.specs.declared.Refusal.TheVariants.{Long, Bad, FewDefinitions, Conflicting, Deep, FewSpans}
use Rattle.notice.specs.Answers.{counts, Fewer, Enough, ConflictRow, Due3, Due4, Due5, Due9}
use Rattle.notice.specs.Answers as reader
use Rattle.rendering.specs.declared.Rendered.{Rendered}
use Rattle.rendering.specs.declared.Refusal.{Refusal}
use Rattle.rendering.specs.declared.Refusal.TheVariants.{Unread, ShortPage}

-- ---- document 01's numbers of an answer
-- the counts of definitions and spans and the HTML's length, or a refusal
abbrev pub Rendering : Type 0
Rendering = Result Rendered Refusal

abbrev pub written : Counts → ℕ → Rendered
written c w = record { counts = c; bytes = w }

-- the refusals of the page writer: the reader's, and 6
abbrev pub refusal_number : Refusal → ℕ
refusal_number (Unread r) = reader.refusal_number r
refusal_number (ShortPage n) = 6

-- "Success is number 0"
abbrev pub number_of : Rendering → ℕ
number_of (Ok w) = 0
number_of (Err r) = refusal_number r

-- "Returned with it"
abbrev pub refusal_value : Refusal → ℕ
refusal_value (Unread r) = reader.refusal_value r
refusal_value (ShortPage n) = n

abbrev pub value_of : Rendering → ℕ
value_of (Ok w) = 0
value_of (Err r) = refusal_value r

-- "with the counts of definitions and spans, from the page writer also the HTML's length"
abbrev pub definition_count : Rendering → ℕ
definition_count (Ok w) = w.counts.definitions
definition_count (Err r) = 0

abbrev pub span_count : Rendering → ℕ
span_count (Ok w) = w.counts.spans
span_count (Err r) = 0

abbrev pub page_length : Rendering → ℕ
page_length (Ok w) = w.bytes
page_length (Err r) = 0

-- "say which text, 0 the note, 1 the sheet; an answer about neither says 0"
abbrev pub refusal_text : Refusal → ℕ
refusal_text (Unread r) = reader.refusal_text r
refusal_text (ShortPage n) = 0

abbrev pub named_of : Rendering → ℕ
named_of (Ok w) = 0
named_of (Err r) = refusal_text r

-- ---- which answer
-- the HTML is so many bytes long
pub record PageMeasured (T : Texts) (size : ℕ) : Type 0 where
  pub page : List ℕ
  pub page_is : PageIs T page
  pub measured : length page ≡ size

-- ---- "The first that applies, in order 1 to 6, is the answer; the reader gives 1 to 5, the page writer 1 to 6.", and both give 9, "Checked after 3"
module _ (release : Bool) (T : Texts) (definition_rows rows_of_spans room : ℕ) where
  -- 6: "page buffer shorter than the HTML", where none of the others applies
  abbrev pub Due6 : Type 0
  Due6 = reader.Due0 release T definition_rows rows_of_spans × Fewer room (PageMeasured T)

  -- success
  abbrev pub Due0 : Type 0
  Due0 = reader.Due0 release T definition_rows rows_of_spans × Enough room (PageMeasured T)

  -- the answer, with what is "Returned with it"
  pub data Answers : Rendering → Type 0 where
    -- "its length"
    long : {x : ℕ} → Due1 T x → Answers (Err (Unread (Long x (length (text_of T x)))))
    -- "where reading from the start first meets no good character"
    bad : {x place : ℕ} → Due2 T x → FirstBad (text_of T x) place → Answers (Err (Unread (Bad x place)))
    -- "rows needed"
    few_definitions : (due : Due3 release T definition_rows rows_of_spans) → Answers (Err (Unread (FewDefinitions due.1.needed)))
    -- "the row number, from 1"
    conflicting : {row : ℕ} → Due9 release T definition_rows rows_of_spans → ConflictRow T row → Answers (Err (Unread (Conflicting row)))
    -- "place of the first bracket too many"
    deep : {place : ℕ} → Due4 release T definition_rows rows_of_spans → FirstDeep T place → Answers (Err (Unread (Deep place)))
    -- "rows needed"
    few_spans : (due : Due5 release T definition_rows rows_of_spans) → Answers (Err (Unread (FewSpans due.4.needed)))
    -- "bytes needed"
    short_page : (due : Due6) → Answers (Err (ShortPage due.1.needed))
    -- "with the counts of definitions and spans, from the page writer also the HTML's length"
    rendered : (due : Due0) → Answers (Ok (written (counts due.0.1.needed due.0.4.needed) due.1.needed))
