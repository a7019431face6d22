-- The page writer's answer and the page buffer at exit, as they are computed.
use Rattle.std.specs.Prelude.{ℕ, List, ◌++◌, Bool, cond, length, drop, eqb, ltb, Ok, Err}
use Rattle.texts.specs.Texts.{Texts}
use Rattle.page.specs.Reading.{page_of}
use Rattle.notice.specs.declared.Counts.{Counts}
use Rattle.notice.specs.Answers.{Reading}
use Rattle.notice.specs.Reading.{reading_of}
use Rattle.rendering.specs.declared.Refusal.TheVariants.{Unread, ShortPage}
use Rattle.rendering.specs.Answers.{Rendering, written, number_of}

-- ---- the answer
-- a refusal of the reader; or what is said where it read so many definitions and spans
abbrev pub read_or : (Counts → Rendering) → Reading → Rendering
read_or f (Ok c) = f c
read_or f (Err r) = Err (Unread r)

-- where the HTML needs so many bytes, and the page buffer has so much room
abbrev pub with_page : ℕ → ℕ → Counts → Rendering
with_page need room c = cond (ltb room need) (Err (ShortPage need)) (Ok (written c need))

-- the page writer's answer by the reader's
abbrev pub after_reading : ℕ → ℕ → Reading → Rendering
after_reading need room = read_or (with_page need room)

-- "The first that applies, in order 1 to 6, is the answer", and 9 is "Checked after 3": where so many whole rows of each table and so many bytes are lent
unfoldable pub rendering_of : Bool → Texts → ℕ → ℕ → ℕ → Rendering
rendering_of release T definition_rows rows_of_spans room = after_reading (length (page_of T)) room (reading_of release T definition_rows rows_of_spans)

-- ---- what was lent, at exit
-- "After 6 both tables hold their rows and the page buffer is unchanged. After every answer, .. bytes past the part in use are unchanged.": p is the page buffer at entry
abbrev pub page_buffer_of : Texts → Rendering → List ℕ → List ℕ
page_buffer_of T r p = cond (eqb (number_of r) 0) (page_of T ++ drop (length (page_of T)) p) p
