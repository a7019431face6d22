-- The page that the rows call for by the law is the one that is read from them, and the page of the markings.
use Prim.Native.Nat.{ℕ, zero, suc}
use native.Mathlib.Nat.{add-zero}
use native.Mathlib.Omega.{arith}
use mathlib.Core.Path.{◌≡◌, refl, sym, ap, ◌∙◌, subst}
use mathlib.Core.Logic.{◌↔◌}
use mathlib.Core.Option.{some, none-ne-some}
use mathlib.Core.Bool.{Bool, true, false}
use mathlib.Core.List.Forall₂
use mathlib.Core.List.{List, [], ◌∷◌, ◌++◌, flat_map, append-nil}
use lib.ListN.{length, get_elem?}
use Rattle.scan.specs.Member.{In}
use Rattle.marking.specs.Marking.{Marking}
use Rattle.texts.specs.Texts.{Texts}
use Rattle.block.specs.Block.{Placed}
use Rattle.row.specs.Row.{Listed}
use Rattle.row.specs.First.{bytes_of}
use Rattle.definition.specs.Reading.{paragraphs}
use Rattle.definition.proofs.NotePlaces.{Inside}
use Rattle.joined.specs.Joined.{JoinedIs}
use Rattle.joined.specs.Reading.{joined}
use Rattle.joined.proofs.Joined.{joined_one}
use Rattle.inline.specs.Tails.{Tail}
use Rattle.note.specs.Note.{MarkingOf, MarkingsAre, EachRowOnce}
use Rattle.note.specs.Reading.{span_rows}
use Rattle.note.proofs.Markings.{marked}
use Rattle.note.proofs.Placing.{each_inside}
use Rattle.note.proofs.EachRow.{each_row_iff}
use Rattle.code.specs.Code.{CodeElement}
use Rattle.html.specs.Tags.{paragraph_open, paragraph_close}
use Rattle.page.specs.Page.{OpenTag, CloseTag, PageIs}
use Rattle.page.specs.ByRows.{span_of, text_for, RangeIs, ParagraphBy, paragraph, ByRows, none, more}
use Rattle.page.specs.ByRows as by_rows
use Rattle.page.specs.Reading.{content_from, paragraph_page, page_by, page_of}
use Rattle.page.specs.Claims.{SameParts}
use Rattle.page.proofs.Pieces.{RowsHere}
use Rattle.page.proofs.Here.{in_order, marking_of, rows_here}
use Rattle.page.proofs.Turns.{at_end}
use Rattle.page.proofs.Page.{page_iff}
use Rattle.page.proofs.Ranges.{range_read}
use Rattle.page.proofs.Tiling.{range_some}

-- ---- a paragraph
module _ (T : Texts) (js : List Listed) (q : Placed) (m : Marking Tail) (c : MarkingOf T js q m) (w : Inside T.note q) (rows : List (List ℕ)) (h : RowsHere T js q m rows) where
  content_read : {v : List ℕ} → RangeIs T js rows q 0 (length q.bytes) v → content_from T js rows 0 q.bytes q.at ≡ v
  content_read {v} r =
      ap (content_from T js rows 0 q.bytes) (sym (add-zero q.at))
      ∙ range_read T js q m c w rows h r (omega arith)
      ∙ ap (λ (z : List ℕ). v ++ z) (at_end T js rows q.bytes q.at)
      ∙ append-nil v

  paragraph_called : ParagraphBy T js rows q (paragraph_page T js rows q)
  unfolding paragraph_page
  paragraph_called = let (v, r) = range_some T js q m c w rows h in rw (content_read r) (paragraph r)

  paragraph_only : {v : List ℕ} → ParagraphBy T js rows q v → paragraph_page T js rows q ≡ v
  unfolding paragraph_page
  paragraph_only (paragraph r) = ap (λ (y : List ℕ). paragraph_open ++ y ++ paragraph_close) (content_read r)

-- ---- the paragraphs in order
module _ (T : Texts) (js : List Listed) (rows : List (List ℕ)) where
  -- the paragraph q has one page by the law, and it is read by these rows
  record Called (q : Placed) : Type 0 where
    called : ParagraphBy T js rows q (paragraph_page T js rows q)
    only : {v : List ℕ} → ParagraphBy T js rows q v → paragraph_page T js rows q ≡ v

  abbrev EachCalled : List Placed → Type 0
  EachCalled ps = (k : ℕ) (q : Placed) → get_elem? ps k ≡ some q → Called q

  pages_called : (ps : List Placed) → EachCalled ps → ByRows T js rows ps (flat_map (paragraph_page T js rows) ps)
  unfolding flat_map
  pages_called [] f = none
  pages_called (q ∷ ps) f = more (f 0 q refl).called (pages_called ps (λ k. f (suc k)))

  pages_only : {ps : List Placed} {v : List ℕ} → EachCalled ps → ByRows T js rows ps v → flat_map (paragraph_page T js rows) ps ≡ v
  unfolding flat_map
  pages_only f none = refl
  pages_only f (more {q = q} {ps = ps} {w = w} p t) =
      ap (λ (y : List ℕ). y ++ flat_map (paragraph_page T js rows) ps) ((f 0 q refl).only p) ∙ ap (λ (y : List ℕ). w ++ y) (pages_only (λ k. f (suc k)) t)

module _ (T : Texts) where
  -- each paragraph of the note has a marking
  marking_there : (js : List Listed) {ps : List Placed} {ms : List (Marking Tail)} → MarkingsAre T js ps ms → (k : ℕ) (q : Placed) → get_elem? ps k ≡ some q
      → (m : Marking Tail) × (get_elem? ms k ≡ some m)
  marking_there js Forall₂.nil k q e = absurd (none-ne-some q e)
  marking_there js (Forall₂.cons {b = m} c t) zero q e = (m, refl)
  marking_there js (Forall₂.cons c t) (suc k) q e = marking_there js t k q e

  each_called : EachCalled T (joined T) (span_rows T) (paragraphs T.note)
  each_called k q e =
      let n = marked T in
      let (m, d) = marking_there n.list n.each k q e in
      let c = marking_of T n k q m e d in
      let w = each_inside (in_order T n) k q e in
      let h = rows_here T n k q m e d in
      record {
        called = paragraph_called T n.list q m c w (span_rows T) h;
        only = paragraph_only T n.list q m c w (span_rows T) h;
      }

  pub called_iff : (w : List ℕ) → (page_of T ≡ w) ↔ ByRows T (joined T) (span_rows T) (paragraphs T.note) w
  unfolding page_of page_by
  called_iff w = (
    (λ e. subst (ByRows T (joined T) (span_rows T) (paragraphs T.note)) e (pages_called T (joined T) (span_rows T) (paragraphs T.note) each_called)),
    pages_only T (joined T) (span_rows T) each_called,
  )

  module _ (js : List Listed) (ps : List Placed) (rows : List (List ℕ)) (n : JoinedIs T js ps) (r : EachRowOnce T rows) where
    -- they are those that are read
    same_page : page_of T ≡ page_by T js ps rows
    unfolding page_of
    same_page = let (d, p) = joined_one T n in rw (d, p, (each_row_iff T rows).1 r) refl

    same_rows : (w : List ℕ) → ByRows T (joined T) (span_rows T) (paragraphs T.note) w ↔ ByRows T js rows ps w
    same_rows w = let (d, p) = joined_one T n in rw (d, p, (each_row_iff T rows).1 r) ((λ b. b), (λ b. b))

    -- the reading gives the one page that the law admits
    pub by_rows_iff : (w : List ℕ) → (page_by T js ps rows ≡ w) ↔ ByRows T js rows ps w
    by_rows_iff w = ((λ e. (same_rows w).0 ((called_iff w).0 (same_page ∙ e))), (λ b. sym same_page ∙ (called_iff w).1 ((same_rows w).1 b)))

    -- and it is the page of the markings
    pub page_by_rows : (w : List ℕ) → ByRows T js rows ps w ↔ PageIs T w
    page_by_rows w = ((λ b. (page_iff T w).0 ((called_iff w).1 ((same_rows w).1 b))), (λ p. (same_rows w).0 ((called_iff w).0 ((page_iff T w).1 p))))

-- ---- of the texts it depends on nothing but the paragraphs and the bytes that the rows name
module _ (T : Texts) (js : List Listed) (T' : Texts) (js' : List Listed) (rows : List (List ℕ)) (same : (row : List ℕ) → In row rows → SameParts T js T' js' row) where
  same_described : (q : Placed) (a : ℕ) → by_rows.Described T js rows q a → by_rows.Described T' js' rows q a
  same_described q a d = record { row = d.row; is_row = d.is_row; is_an_image = d.is_an_image; inside = d.inside }

  back_described : (q : Placed) (a : ℕ) → by_rows.Described T' js' rows q a → by_rows.Described T js rows q a
  back_described q a d = record { row = d.row; is_row = d.is_row; is_an_image = d.is_an_image; inside = d.inside }

  same_tags : (q : Placed) (b : Bool) (a : ℕ) → by_rows.Tags T js rows q b a → by_rows.Tags T' js' rows q b a
  same_tags q true a f = λ d. f (back_described q a d)
  same_tags q false a f = same_described q a f

  same_range : (q : Placed) {a b : ℕ} {w : List ℕ} → RangeIs T js rows q a b w → RangeIs T' js' rows q a b w
  same_range q by_rows.nothing = by_rows.nothing
  same_range q (by_rows.beside x y) = by_rows.beside (same_range q x) (same_range q y)
  same_range q (by_rows.escape f e) = by_rows.escape f e
  same_range q (by_rows.byte f l e) = by_rows.byte f l e
  same_range q (by_rows.a_code_span {tags = tags} {row = row} {w = w} i k e u c) =
      by_rows.a_code_span i k e (same_tags q tags _ u) (subst (λ (x : List ℕ). CodeElement tags x w) (same row i).text_same c)
  same_range q (by_rows.pair x tags {row = row} {o = o} {e = z} i k e d u p p' r) =
      by_rows.pair x tags i k e d (same_tags q tags _ u)
      (subst (λ (y : List ℕ). OpenTag x (bytes_of (text_for T' js' row) (span_of row).destination) y o) (same row i).title_same
      (subst (λ (y : List ℕ). OpenTag x y (bytes_of (text_for T js row) (span_of row).title) o) (same row i).destination_same p))
      (subst (λ (y : List ℕ). CloseTag x y z) (same row i).title_same p') (same_range q r)

  same_paragraph : {q : Placed} {w : List ℕ} → ParagraphBy T js rows q w → ParagraphBy T' js' rows q w
  same_paragraph {q} (paragraph r) = paragraph (same_range q r)

  pub page_by_parts : {ps : List Placed} {w : List ℕ} → ByRows T js rows ps w → ByRows T' js' rows ps w
  page_by_parts none = none
  page_by_parts (more p r) = more (same_paragraph p) (page_by_parts r)
