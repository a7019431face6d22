-- The page that span rows call for: what stands on it for a range of a paragraph, by the rows that lie there. Document 01, "The page" and "Rows", and
-- document 02, request 5.
use Rattle.std.specs.Prelude.{ℕ, ◌+◌, ◌≤◌, ◌<◌, ◌≡◌, List, [], ◌∷◌, ◌++◌, Bool, true, false, length, get_or, drop}
use Rattle.scan.specs.Byte.{escapes}
use Rattle.scan.specs.Member.{In}
use Rattle.marking.specs.Marking.{Sort, link, image}
use Rattle.texts.specs.Texts.{Texts}
use Rattle.block.specs.Block.{Placed}
use Rattle.row.specs.declared.Range.{Range}
use Rattle.row.specs.Row.{range, Listed}
use Rattle.row.specs.First.{bytes_of, named_text}
use Rattle.span.specs.declared.Span.{Span}
use Rattle.span.specs.Row.{code_span_kind, inline_kind, shortcut_kind, inline_image_kind, shortcut_image_kind, span}
use Rattle.inline.specs.Rows.{from_note}
use Rattle.escaping.specs.Escaping.{escaped}
use Rattle.code.specs.Code.{CodeElement}
use Rattle.html.specs.Tags.{paragraph_open, paragraph_close}
use Rattle.page.specs.Page.{OpenTag, CloseTag, Unless, tag_if}

-- "kind, start, end, text start, text end, definition number .., destination start and end, title start and end"
abbrev pub span_of : List ℕ → Span
span_of row =
    span (get_or row 0 0) (range (get_or row 1 0) (get_or row 2 0)) (range (get_or row 3 0) (get_or row 4 0)) (get_or row 5 0) (range (get_or row 6 0) (get_or row 7 0)) (range (get_or row 8 0) (get_or row 9 0))

-- "1 code span"
abbrev pub IsCode : List ℕ → Type 0
IsCode row = (span_of row).kind ≡ code_span_kind

-- "2 inline, 3 full, 4 collapsed, 5 shortcut"; "6 inline, 7 full, 8 collapsed, 9 shortcut"
abbrev pub IsSort : Sort → List ℕ → Type 0
IsSort link row = (inline_kind ≤ (span_of row).kind) × ((span_of row).kind ≤ shortcut_kind)
IsSort image row = (inline_image_kind ≤ (span_of row).kind) × ((span_of row).kind ≤ shortcut_image_kind)

-- the text in which the row's destination and title lie, where js is the joined list of the texts T
abbrev pub text_for : Texts → List Listed → List ℕ → List ℕ
text_for T js row = named_text T js (span_of row).definition

-- a paragraph q of the note, which has these rows, where js is the joined list of the texts T; places below are the paragraph's own
module _ (T : Texts) (js : List Listed) (rows : List (List ℕ)) (q : Placed) where
  -- "places count from the note's start": from place a of the paragraph to place b
  abbrev pub part : ℕ → ℕ → Range
  part a b = from_note q.at (range a b)

  -- the place a lies in the part r of the note
  abbrev pub Within : ℕ → Range → Type 0
  Within a r = (r.start ≤ q.at + a) × (q.at + a < r.end)

  -- the place a is one of text: it lies in no span, or in links and images alone, between their brackets
  abbrev pub TextAt : ℕ → Type 0
  TextAt a = (row : List ℕ) → In row rows → Within a (span_of row).whole → (x : Sort) × IsSort x row × Within a (span_of row).text

  -- the place a lies in an image's description, between its brackets
  pub record Described (a : ℕ) : Type 0 where
    pub row : List ℕ
    pub is_row : In row rows
    pub is_an_image : IsSort image row
    pub inside : Within a (span_of row).text

  -- whether tags are written for what starts at place a: "A is the description's page content without tags, an inner image giving its own A"
  abbrev pub Tags : Bool → ℕ → Type 0
  Tags tags a = Unless tags (Described a)

  -- what stands on the page for the bytes from place a to place b, where neither a span nor an escape is cut
  pub data RangeIs : ℕ → ℕ → List ℕ → Type 0 where
    -- for no byte nothing, and for two ranges side by side the one and then the other
    nothing : {a : ℕ} → RangeIs a a []
    beside : {a b c : ℕ} {w v : List ℕ} → RangeIs a b w → RangeIs b c v → RangeIs a c (w ++ v)
    -- "Escapes lose the backslash."
    escape : {a : ℕ} → TextAt a → escapes (drop a q.bytes) ≡ true → RangeIs a (a + 2) (escaped (get_or q.bytes (a + 1) 0))
    -- "`&`, `<`, `>`, `"` become `&amp;`, `&lt;`, `&gt;`, `&quot;` in text": a byte that starts no escape
    byte : {a : ℕ} → TextAt a → a < length q.bytes → escapes (drop a q.bytes) ≡ false → RangeIs a (a + 1) (escaped (get_or q.bytes a 0))
    -- "Code: `<code>`, content, `</code>`"
    a_code_span : {tags : Bool} {row : List ℕ} {a b : ℕ} {w : List ℕ} → In row rows → IsCode row → (span_of row).whole ≡ part a b → Tags tags a
        → CodeElement tags (bytes_of T.note (span_of row).text) w → RangeIs a b w
    -- "Links: `<a href="D" title="T">text</a>`" and `<img src="D" alt="A" title="T" />`: between the two what stands there for the text or the description, of the tail
    -- nothing. "A reference's destination and title places lie in the text that its definition row names."
    pair : (x : Sort) (tags : Bool) {row : List ℕ} {a b c d : ℕ} {o w e : List ℕ} → In row rows → IsSort x row → (span_of row).whole ≡ part a b → (span_of row).text ≡ part c d
        → Tags tags a → OpenTag x (bytes_of (text_for T js row) (span_of row).destination) (bytes_of (text_for T js row) (span_of row).title) o
        → CloseTag x (bytes_of (text_for T js row) (span_of row).title) e → RangeIs c d w → RangeIs a b (tag_if tags o ++ w ++ tag_if tags e)

  -- "Each paragraph: `<p>`, content, `</p>`, LF."
  pub data ParagraphBy : List ℕ → Type 0 where
    paragraph : {w : List ℕ} → RangeIs 0 (length q.bytes) w → ParagraphBy (paragraph_open ++ w ++ paragraph_close)

-- w is the page that these rows call for in these paragraphs of the note, in order
pub data ByRows (T : Texts) (js : List Listed) (rows : List (List ℕ)) : List Placed → List ℕ → Type 0 where
  none : ByRows T js rows [] []
  more : {q : Placed} {ps : List Placed} {w v : List ℕ} → ParagraphBy T js rows q w → ByRows T js rows ps v → ByRows T js rows (q ∷ ps) (w ++ v)
