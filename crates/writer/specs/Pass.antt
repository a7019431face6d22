-- One pass over the note's bytes, which writes the page: what it reads, where it stands, and what each step of it leaves.
use Rattle.std.specs.Prelude.{ℕ, ◌≤◌, ◌<◌, ◌≡◌, List, Bool, false, length, take}
use Rattle.scan.specs.Member.{In}
use Rattle.texts.specs.Texts.{Texts, texts}
use Rattle.joined.specs.Reading.{joined, Listing}
use Rattle.walk.specs.Reading.{placed_between}
use Rattle.note.specs.Reading.{span_rows}
use Rattle.buffer.specs.declared.Page.{Page}
use Rattle.buffer.specs.Stored.{HasRoom, Grows, Leads}
use Rattle.page.specs.Reading.{is_code, row_start, text_end, Written, started, closed, paragraph_page, from, here, Bare}
use Rattle.cursor.specs.Cursor.{Behind}
use Rattle.cursor.specs.Spanned.{Spanned}
use Rattle.cursor.specs.Starts.{Started}
use Rattle.writer.specs.declared.Pass.{Pass}
use Rattle.writer.specs.declared.Source.{Source}

-- ---- what is read
abbrev pub texts_of : Source → Texts
texts_of r = texts r.note.now r.sheet.now

-- its tables tell of the note and its sheet
pub record Ready (r : Source) : Type 0 where
  pub listing : Listing (texts_of r) r.definitions.now
  pub spanned : Spanned (texts_of r) r.spans.now r.count
  pub started : Started (span_rows (texts_of r)) r.starts.now

-- ---- a paragraph of the note that ends at e
module _ (T : Texts) (e : ℕ) where
  -- what is still to write of it at place i
  abbrev pub left : ℕ → List ℕ
  left i = from T (joined T) (span_rows T) (take e T.note) 0 i

  -- place i lies in the paragraph, and what is written there is w
  pub record Calls (i : ℕ) (w : Written) : Type 0 where
    pub inside : i < e
    pub within : e ≤ length T.note
    pub called : here T (joined T) (span_rows T) (take e T.note) 0 i ≡ w

  -- the row r of the note starts at place i, and calls with tags or without for what is written there
  pub record StartsHere (r : List ℕ) (tags : Bool) (i : ℕ) : Type 0 where
    pub is_row : In r (span_rows T)
    pub stands : row_start r ≡ i
    pub calls : Calls i (started T (joined T) tags r)

  -- the row r of the note is a link or an image whose text ends at place i, and calls with tags or without for what is written there
  pub record ClosesHere (r : List ℕ) (tags : Bool) (i : ℕ) : Type 0 where
    pub is_row : In r (span_rows T)
    pub no_code : is_code r ≡ false
    pub stands : text_end r ≡ i
    pub calls : Calls i (closed T (joined T) tags r)

  -- from place i up to place k, within the paragraph, no row calls for anything
  pub record Plain (i k : ℕ) : Type 0 where
    pub nonempty : i < k
    pub inside : k ≤ e
    pub within : e ≤ length T.note
    pub bare : (j : ℕ) → i ≤ j → j < k → Bare T (joined T) (span_rows T) (take e T.note) 0 j

  -- what is left of the paragraph at place i fits
  abbrev pub Room : ℕ → Page → Type 0
  Room i page = HasRoom page (left i)

  -- the pass goes on from place i to place r; the page has become page'
  pub record Passes (i : ℕ) (page : Page) (r : ℕ) (page' : Page) : Type 0 where
    pub written : Leads page (left i) page' (left r)
    pub onward : i < r

-- ---- text: what is written of it does not depend on the sheet
-- with some sheet there is text from place i up to `stop`, in a paragraph of the note s that ends at e, and what is left of that fits
pub record TextAhead (s : List ℕ) (e stop i : ℕ) (page : Page) : Type 0 where
  pub sheet : List ℕ
  pub plain : Plain (texts s sheet) e i stop
  pub room : Room (texts s sheet) e i page

-- whatever the sheet, where there is text up to `stop` the pass goes on from place i to place r; the page has become page'
abbrev pub PassesText : List ℕ → ℕ → ℕ → ℕ → Page → ℕ → Page → Type 0
PassesText s e stop i page r page' = (sheet : List ℕ) → Plain (texts s sheet) e i stop → Passes (texts s sheet) e i page r page'

-- ---- the cursor of p at place i
abbrev pub Cursor : Texts → Pass → ℕ → Type 0
Cursor T p i = Behind (span_rows T) p.close i

-- p stands in a paragraph that ends at e, with its cursor, and what is left of it fits
pub record Stands (T : Texts) (e : ℕ) (p : Pass) (page : Page) : Type 0 where
  pub inside : p.at < e
  pub within : e ≤ length T.note
  pub cursor : Cursor T p p.at
  pub room : Room T e p.at page

-- the pass goes on from p to r, its cursor moved to where it stands for the place p .at
pub record Goes (T : Texts) (e : ℕ) (p : Pass) (page : Page) (r : Pass) (page' : Page) : Type 0 where
  pub written : Leads page (left T e p.at) page' (left T e r.at)
  pub onward : p.at < r.at
  pub cursor : Cursor T r p.at

-- p stands at the start of a paragraph that ends at e, and there is room for it
pub record Starts (T : Texts) (e : ℕ) (p : Pass) (page : Page) : Type 0 where
  pub ordered : p.at ≤ e
  pub within : e ≤ length T.note
  pub cursor : Cursor T p p.at
  pub room : HasRoom page (paragraph_page T (joined T) (span_rows T) (placed_between T.note p.at e))

-- the paragraph is written, and the cursor stands for its end
pub record Ends (T : Texts) (e : ℕ) (p : Pass) (page : Page) (r : Pass) (page' : Page) : Type 0 where
  pub written : Grows page (paragraph_page T (joined T) (span_rows T) (placed_between T.note p.at e)) page'
  pub cursor : Cursor T r e
