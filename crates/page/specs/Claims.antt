-- What is claimed of the page of every note and sheet.
use Rattle.std.specs.Prelude.{ℕ, ◌<◌, ◌≤◌, ◌≡◌, ◌↔◌, List, [], ◌++◌, length}
use Rattle.scan.specs.Ascii.{ascii}
use Rattle.text.specs.Utf8.{note_limit}
use Rattle.scan.specs.Member.{In}
use Rattle.texts.specs.Texts.{Texts}
use Rattle.block.specs.Block.{Placed}
use Rattle.row.specs.Row.{Listed}
use Rattle.row.specs.First.{bytes_of}
use Rattle.joined.specs.Joined.{JoinedIs}
use Rattle.note.specs.Note.{EachRowOnce}
use Rattle.html.specs.Tags.{paragraph_open, paragraph_close, link_close}
use Rattle.code.specs.Code.{code_open, code_close}
use Rattle.escaping.specs.Clean.{Clean}
use Rattle.buffer.specs.Stored.{page_most}
use Rattle.page.specs.Page.{PageIs}
use Rattle.page.specs.ByRows.{span_of, text_for, ByRows}

-- ---- the rows call for it
-- the texts T with the joined list js, and T' with js', have the same bytes where the row says that a code span's text, a destination and a title stand
pub record SameParts (T : Texts) (js : List Listed) (T' : Texts) (js' : List Listed) (row : List ℕ) : Type 0 where
  pub text_same : bytes_of T.note (span_of row).text ≡ bytes_of T'.note (span_of row).text
  pub destination_same : bytes_of (text_for T js row) (span_of row).destination ≡ bytes_of (text_for T' js' row) (span_of row).destination
  pub title_same : bytes_of (text_for T js row) (span_of row).title ≡ bytes_of (text_for T' js' row) (span_of row).title

-- ---- what stands in it
-- the tags that are written; what is put into them holds no `<`, `>` or `"`, and each `&` in it starts an entity
pub data Tag : List ℕ → Type 0 where
  opening_paragraph : Tag paragraph_open
  closing_paragraph : Tag paragraph_close
  opening_code : Tag code_open
  closing_code : Tag code_close
  opening_link : {h : List ℕ} → Clean h → Tag (ascii "<a href=\"" ++ (h ++ ascii "\">"))
  link_open_titled : {h t : List ℕ} → Clean h → Clean t → Tag (ascii "<a href=\"" ++ (h ++ (ascii "\" title=\"" ++ (t ++ ascii "\">"))))
  closing_link : Tag link_close
  image : {h a : List ℕ} → Clean h → Clean a → Tag (ascii "<img src=\"" ++ (h ++ (ascii "\" alt=\"" ++ (a ++ ascii "\" />"))))
  image_titled : {h a t : List ℕ} → Clean h → Clean a → Clean t
      → Tag (ascii "<img src=\"" ++ (h ++ (ascii "\" alt=\"" ++ (a ++ (ascii "\" title=\"" ++ (t ++ ascii "\" />"))))))

-- tags and what cannot be taken for markup: every `<`, `>` and `"` is one of a tag's own
pub data Tagged : List ℕ → Type 0 where
  none : Tagged []
  tag : {w v : List ℕ} → Tag w → Tagged v → Tagged (w ++ v)
  clean : {w v : List ℕ} → Clean w → Tagged v → Tagged (w ++ v)

pub record PageClaims (T : Texts) : Type 0 where
  -- there is one
  pub page : List ℕ
  pub page_is : PageIs T page
  pub no_other : (w : List ℕ) → PageIs T w → w ≡ page
  -- the same that the span rows call for in the paragraphs, whatever joined list, paragraphs and rows the laws give
  pub by_rows : (js : List Listed) (ps : List Placed) (rows : List (List ℕ)) → JoinedIs T js ps → EachRowOnce T rows → (w : List ℕ) → ByRows T js rows ps w ↔ PageIs T w
  -- and of the texts the rows call for nothing but the bytes that they name: any rows, in any paragraphs
  pub by_parts : (js : List Listed) (T' : Texts) (js' : List Listed) (ps : List Placed) (rows : List (List ℕ)) → ((row : List ℕ) → In row rows → SameParts T js T' js' row)
      → (w : List ℕ) → ByRows T js rows ps w → ByRows T' js' rows ps w
  -- whatever the texts, no byte of them opens or closes a tag or an attribute
  pub tagged : (w : List ℕ) → PageIs T w → Tagged w
  -- no sum of lengths wraps
  pub bounded : (w : List ℕ) → length T.note ≤ note_limit → length T.sheet ≤ note_limit → PageIs T w → length w < page_most
