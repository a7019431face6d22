-- The page of a note: what stands on it for each piece of the markings. Document 01, "The page", and document 02, request 5.
use Rattle.std.specs.Prelude.{ℕ, ◌+◌, ◌≤◌, ◌≡◌, Bool, true, false, get_or}
use mathlib.Core.List.{List, [], ◌∷◌, ◌++◌, flat_map}
use Rattle.scan.specs.Ascii.{ascii}
use Rattle.marking.specs.Marking.{Sort, link, image, Piece, Marking}
use Rattle.marking.specs.Marking as kinds
use Rattle.marking.specs.Spans.{pair_span, TakenOf}
use Rattle.texts.specs.Texts.{Texts}
use Rattle.block.specs.Block.{Placed}
use Rattle.row.specs.declared.Range.{Range}
use Rattle.row.specs.Row.{range, Listed, definitions_of}
use Rattle.row.specs.First.{bytes_of, named_text}
use Rattle.inline.specs.Tails.{Tail}
use Rattle.inline.specs.Rows.{CodeText, Target, target_of}
use Rattle.note.specs.Note.{Marked}
use Rattle.escaping.specs.Escaping.{escaped}
use Rattle.code.specs.Code.{CodeElement}
use Rattle.html.specs.Tags.{LinkOpen, link_close, ImageOpen, ImageClose, paragraph_open, paragraph_close}

-- ---- the tags of a link, `<a href="D" title="T">` and `</a>`, and what stands before and after A in the tag of an image, `<img src="D" alt="A" title="T" />`:
-- d is the destination and t the title. An absent title is the part 0, 0, so that it is empty
pub data OpenTag : Sort → List ℕ → List ℕ → List ℕ → Type 0 where
  of_link : {d t w : List ℕ} → LinkOpen d t w → OpenTag link d t w
  of_image : {d t w : List ℕ} → ImageOpen d w → OpenTag image d t w

pub data CloseTag : Sort → List ℕ → List ℕ → Type 0 where
  after_link : {t : List ℕ} → CloseTag link t link_close
  after_image : {t w : List ℕ} → ImageClose t w → CloseTag image t w

-- ---- the switch
-- tags are written, true, unless P, and then not
abbrev pub Unless : Bool → Type 0 → Type 0
Unless true P = P → ⊥
Unless false P = P

-- w where tags are written
abbrev pub tag_if : Bool → List ℕ → List ℕ
tag_if true w = w
tag_if false w = []

-- the bytes of an opening piece
abbrev pub opening_bytes : Sort → List ℕ
opening_bytes link = ascii "["
opening_bytes image = ascii "!["

-- a paragraph q of the note, where js is the joined list of the texts T, with its marking m
module _ (T : Texts) (js : List Listed) (q : Placed) (m : Marking Tail) where
  -- the places of the destination and the title of a link or an image: an inline one's own, a reference's those of its definition
  abbrev pub target : Sort → Piece → Piece → Tail → Target
  target x o c t = target_of q.at (definitions_of js) (pair_span x o c t)

  -- the text in which they lie: the note, or the one that the definition names
  abbrev pub target_text : Sort → Piece → Piece → Tail → List ℕ
  target_text x o c t = named_text T js (target x o c t).number

  abbrev pub destination_of : Sort → Piece → Piece → Tail → List ℕ
  destination_of x o c t = bytes_of (target_text x o c t) (target x o c t).destination

  abbrev pub title_of : Sort → Piece → Piece → Tail → List ℕ
  title_of x o c t = bytes_of (target_text x o c t) (target x o c t).title

  -- the piece y stands in an image's description, between its brackets
  pub record Described (y : Piece) : Type 0 where
    pub opener : Piece
    pub closer : Piece
    pub with_tail : Tail
    pub image_of : TakenOf m image opener closer with_tail
    pub after : opener.end ≤ y.start
    pub before : y.end ≤ closer.start

  -- whether tags are written for what starts with the piece y: "A is the description's page content without tags, an inner image giving its own A"
  abbrev pub Tags : Bool → Piece → Type 0
  Tags tags y = Unless tags (Described y)

  -- what stands on the page for the piece y
  pub data PieceIs : Piece → List ℕ → Type 0 where
    -- "Escapes lose the backslash."
    escape : {y : Piece} → y.kind ≡ kinds.escape → PieceIs y (escaped (get_or q.bytes (y.start + 1) 0))
    -- "`&`, `<`, `>`, `"` become `&amp;`, `&lt;`, `&gt;`, `&quot;` in text"
    text : {y : Piece} → y.kind ≡ kinds.plain → PieceIs y (flat_map escaped (bytes_of q.bytes (range y.start y.end)))
    -- "Code: `<code>`, content, `</code>`"
    a_code_span : {tags : Bool} {y : Piece} {text : Range} {w : List ℕ} → y.kind ≡ kinds.code → Tags tags y → CodeText q.bytes y text
        → CodeElement tags (bytes_of q.bytes text) w → PieceIs y w
    -- "Links: `<a href="D" title="T">text</a>`" and `<img src="D" alt="A" title="T" />`: for the opening piece what stands before the text or A, for the closing
    -- piece what stands after it
    opening : {x : Sort} (tags : Bool) {y c : Piece} {t : Tail} {w : List ℕ} → TakenOf m x y c t → Tags tags y
        → OpenTag x (destination_of x y c t) (title_of x y c t) w → PieceIs y (tag_if tags w)
    closing : {x : Sort} (tags : Bool) {o y : Piece} {t : Tail} {w : List ℕ} → TakenOf m x o y t → Tags tags o
        → CloseTag x (title_of x o y t) w → PieceIs y (tag_if tags w)
    -- any other bracket is itself
    other_opening : {x : Sort} {y : Piece} → y.kind ≡ kinds.opens x → ((z : Sort) (c : Piece) (t : Tail) → TakenOf m z y c t → ⊥) → PieceIs y (opening_bytes x)
    other_closing : {y : Piece} → y.kind ≡ kinds.closes → ((z : Sort) (o : Piece) (t : Tail) → TakenOf m z o y t → ⊥) → PieceIs y (93 ∷ [])
    -- of a tail nothing stands there
    tail : {y : Piece} → y.kind ≡ kinds.tail → PieceIs y []

  -- the pieces in order
  pub data PiecesAre : List Piece → List ℕ → Type 0 where
    none : PiecesAre [] []
    more : {x : Piece} {xs : List Piece} {w v : List ℕ} → PieceIs x w → PiecesAre xs v → PiecesAre (x ∷ xs) (w ++ v)

  -- "Each paragraph: `<p>`, content, `</p>`, LF."
  pub data ParagraphIs : List ℕ → Type 0 where
    paragraph : {w : List ℕ} → PiecesAre m.pieces w → ParagraphIs (paragraph_open ++ w ++ paragraph_close)

-- the paragraphs in order, with their markings
pub data PageIn (T : Texts) (js : List Listed) : List Placed → List (Marking Tail) → List ℕ → Type 0 where
  none : PageIn T js [] [] []
  more : {q : Placed} {ps : List Placed} {m : Marking Tail} {ms : List (Marking Tail)} {w v : List ℕ}
      → ParagraphIs T js q m w → PageIn T js ps ms v → PageIn T js (q ∷ ps) (m ∷ ms) (w ++ v)

-- w is the page of the texts T: of the note's paragraphs, each with the marking that meets the conditions
pub record PageIs (T : Texts) (w : List ℕ) : Type 0 where
  pub marked : Marked T
  pub page : PageIn T marked.list marked.paragraphs marked.markings w
