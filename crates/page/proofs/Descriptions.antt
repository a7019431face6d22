-- Whether tags are written for a row: by the rows, and by the pieces of the marking.
use Prim.Native.Nat.{ℕ, ◌+◌, ◌≤◌, ◌<◌}
use native.Mathlib.Decide.{dec_lt}
use native.Mathlib.Omega.{arith}
use mathlib.Core.Path.{◌≡◌, refl, sym, ap, ◌∙◌}
use mathlib.Core.Logic.{◌≢◌}
use mathlib.Core.Option.{Option, none, some, some-injective}
use mathlib.Core.List.{List}
use mathlib.Core.Bool.{Bool, true, false, true≢false, ◌&&◌}
use borrow.Author.Tests.{leb-true, le-leb, ltb-true, lt-ltb, ne_eqb}
use lib.ListN.{length, get_or, get_elem?}
use lib.Dec.{leb, ltb}
use Rattle.scan.proofs.Test.{and_left, and_right}
use Rattle.scan.specs.Member.{In}
use Rattle.marking.specs.Marking.{Sort, link, image, trailing, role, Piece, Marking, At}
use Rattle.marking.specs.Spans.{pair_span, TakenOf}
use Rattle.marking.proofs.Tiles.{tiles_order}
use Rattle.marking.proofs.Roles.{closing≢trailing}
use Rattle.texts.specs.Texts.{Texts}
use Rattle.block.specs.Block.{Placed}
use Rattle.row.specs.Row.{Listed}
use Rattle.inline.specs.Tails.{Tail}
use Rattle.note.specs.Note.{MarkingOf}
use Rattle.page.specs.Page as law
use Rattle.page.specs.Page.{Unless}
use Rattle.page.specs.Reading.{is_code, is_image, row_start, text_start, text_end, first_row, describes, is_none, tagged}
use Rattle.page.proofs.Found.{found_in, not_found}
use Rattle.page.proofs.Pieces.{row_in, RowsHere, PairRow, pair_row, link_is_no_image, image_is_one, grows, stands_inside, closing_role}

pub one_switch : (P : Type 0) (b b' : Bool) → Unless b P → Unless b' P → b ≡ b'
one_switch P true true f g = refl
one_switch P true false f g = absurd (f g)
one_switch P false true f g = absurd (g f)
one_switch P false false f g = refl

-- ---- by the rows
-- d describes r exactly if r starts in the description that d has
pub described_by : (r d : List ℕ) → describes r d ≡ true → (is_image d ≡ true) × (text_start d ≤ row_start r) × (row_start r < text_end d)
described_by r d e =
    let f = and_left (is_image d && leb (text_start d) (row_start r)) (ltb (row_start r) (text_end d)) e in (
      and_left (is_image d) (leb (text_start d) (row_start r)) f,
      leb-true (text_start d) (row_start r) (and_right (is_image d) (leb (text_start d) (row_start r)) f),
      ltb-true (row_start r) (text_end d) (and_right (is_image d && leb (text_start d) (row_start r)) (ltb (row_start r) (text_end d)) e),
    )

pub describes_it : (r d : List ℕ) → is_image d ≡ true → text_start d ≤ row_start r → row_start r < text_end d → describes r d ≡ true
describes_it r d i a b = rw (i, le-leb (text_start d) (row_start r) a, lt-ltb (row_start r) (text_end d) b) refl

-- an image is no code span
pub image_is_no_code : (d : List ℕ) → is_image d ≡ true → is_code d ≡ false
image_is_no_code d i = ne_eqb (get_or d 0 0) 1 (λ e. omega (arith, leb-true 6 (get_or d 0 0) i, e))

by_first : (P : Bool → Type 0) (o : Option (List ℕ)) → ((d : List ℕ) → o ≡ some d → P false) → (o ≡ none → P true) → P (is_none o)
by_first P (some d) f g = f d refl
by_first P none f g = g refl

-- what is so if some row describes r, and what if none does
pub by_tags : (P : Bool → Type 0) (rows : List (List ℕ)) (r : List ℕ) → ((d : List ℕ) → In d rows → describes r d ≡ true → P false)
    → (((d : List ℕ) → In d rows → describes r d ≡ true → ⊥) → P true) → P (tagged rows r)
unfolding tagged
by_tags P rows r f g =
    by_first P (first_row (describes r) rows) (λ d e. let (i, t) = found_in (describes r) rows d e in f d i t) (λ e. g (λ d i t. not_found (describes r) rows e d i t))

-- ---- by the pieces
module _ (T : Texts) (js : List Listed) (q : Placed) (m : Marking Tail) (c : MarkingOf T js q m) (rows : List (List ℕ)) (h : RowsHere T js q m rows) where
  -- an image's row, and the image
  pub record ImageRow (d : List ℕ) : Type 0 where
    pub opener : Piece
    pub closer : Piece
    pub with_tail : Tail
    pub taken : TakenOf m image opener closer with_tail
    pub row_is : row_in T js q (pair_span image opener closer with_tail) ≡ d

  as_image : (d : List ℕ) → is_image d ≡ true → PairRow T js q m c d → ImageRow d
  as_image d i y = cases y.sort y.taken y.row_is
    where
      cases : (x : Sort) → TakenOf m x y.opener y.closer y.with_tail → row_in T js q (pair_span x y.opener y.closer y.with_tail) ≡ d → ImageRow d
      cases image l e = record { opener = y.opener; closer = y.closer; with_tail = y.with_tail; taken = l; row_is = e }
      cases link l e = absurd (true≢false (sym i ∙ ap is_image (sym e) ∙ link_is_no_image T js q y.opener y.closer y.with_tail))

  -- a row that describes a place of the paragraph is that of one of its images
  pub image_row : (d : List ℕ) → In d rows → is_image d ≡ true → (i : ℕ) → i < length q.bytes → text_start d ≤ q.at + i → q.at + i < text_end d → ImageRow d
  image_row d j e i l a b =
      let no_code = image_is_no_code d e in
      let (u, v, w) = h.text_ends d j no_code in
      as_image d e (pair_row T js q m c d (h.covering d j i l (omega arith) (omega arith)) no_code)

  -- ---- the piece y, and a row that starts with it
  module _ (k : ℕ) (y : Piece) (a : At m.pieces k y) (no_tail : role y.kind ≢ trailing) (r : List ℕ) (st : row_start r ≡ q.at + y.start) where
    -- a piece that starts before another ends before it
    ends_before : (j : ℕ) (z : Piece) → At m.pieces j z → y.start < z.start → z.start ≤ z.end → y.end ≤ z.start
    ends_before j z b l o = cases (dec_lt k j) (dec_lt j k)
      where
        cases : Dec (k < j) → Dec (j < k) → y.end ≤ z.start
        cases (yes w) d = (tiles_order 0 (length q.bytes) m.pieces k j y z c.tiled a b w).1
        cases (no w) (yes v) = absurd (omega (arith, (tiles_order 0 (length q.bytes) m.pieces j k z y c.tiled b a v).1))
        cases (no w) (no v) =
            let e : k ≡ j = omega arith in
            let same : y ≡ z = some-injective y z (sym a ∙ ap (get_elem? m.pieces) e ∙ b) in
            let z' : y.start ≡ z.start = ap (λ (p : Piece). p.start) same in
            absurd (omega arith)

    described : (d : List ℕ) → In d rows → describes r d ≡ true → law.Described T js q m y
    described d j e =
        let (i, lo, hi) = described_by r d e in
        let w = image_row d j i y.start (stands_inside T js q m c k y a no_tail) (omega arith) (omega arith) in
        let te : q.at + w.closer.start ≡ text_end d = ap text_end w.row_is in
        let ts : q.at + w.opener.end ≡ text_start d = ap text_start w.row_is in
        let g : w.closer.start < w.closer.end = grows T js q m c w.taken.to w.closer w.taken.close_at (λ z. closing≢trailing (sym (closing_role T js q m c image w.opener w.closer w.with_tail w.taken) ∙ z)) in
        record {
          opener = w.opener;
          closer = w.closer;
          with_tail = w.with_tail;
          image_of = w.taken;
          after = omega arith;
          before = ends_before w.taken.to w.closer w.taken.close_at (omega arith) (omega arith);
        }

    not_described : ((d : List ℕ) → In d rows → describes r d ≡ true → ⊥) → law.Described T js q m y → ⊥
    not_described f w =
        let g = grows T js q m c k y a no_tail in
        f (row_in T js q (pair_span image w.opener w.closer w.with_tail)) (h.each (pair_span image w.opener w.closer w.with_tail) w.image_of)
        (describes_it r (row_in T js q (pair_span image w.opener w.closer w.with_tail)) (image_is_one T js q w.opener w.closer w.with_tail)
        (omega (arith, w.after)) (omega (arith, w.before)))

    pub tags_law : law.Tags T js q m (tagged rows r) y
    tags_law = by_tags (λ (b : Bool). law.Tags T js q m b y) rows r described not_described

    pub tags_only : (b : Bool) → law.Tags T js q m b y → tagged rows r ≡ b
    tags_only b f = one_switch (law.Described T js q m y) (tagged rows r) b tags_law f
