-- How rows lie to one another: the texts of links and images end in the order of the rows, and a row starts in an image's description exactly if it stands before
-- the image's row and does not start before the description does. And a note has fewer rows than bytes.
use Prim.Native.Nat.{ℕ, zero, suc, ◌+◌, ◌≤◌, ◌<◌}
use native.Mathlib.Decide.{dec_lt}
use native.Mathlib.Omega.{arith}
use mathlib.Core.Path.{◌≡◌, refl, sym, ap, ◌∙◌, subst}
use mathlib.Core.Logic.{◌↔◌, ◌≢◌, ◌⊎◌, inl, inr}
use mathlib.Core.Option.{some, some-injective, none-ne-some}
use mathlib.Core.List.{List, []}
use mathlib.Core.Bool.{true, false}
use lib.ListN.{length, get_or, get_elem?}
use Rattle.scan.specs.Member.{In}
use Rattle.scan.proofs.Test.{by}
use Rattle.marking.specs.Marking.{Sort, closing, trailing, role, Piece, Marking, At, tail_piece}
use Rattle.marking.specs.Spans.{Span, code_span, pair_span, SpanOf, TakenOf}
use Rattle.marking.proofs.Lists.{at_inside}
use Rattle.marking.proofs.Tiles.{tiles_order}
use Rattle.marking.proofs.Pairs.{taken_are}
use Rattle.marking.proofs.Roles.{nothing≢closing, nothing≢trailing, opening≢closing, opening≢trailing, closing≢trailing, trailing≢closing}
use Rattle.texts.specs.Texts.{Texts}
use Rattle.block.specs.Block.{Placed}
use Rattle.row.specs.Row.{Listed, definitions_of}
use Rattle.row.specs.First.{labels_of}
use Rattle.definition.proofs.NotePlaces.{Ordered, done, next}
use Rattle.inline.specs.Tails.{Tail, length_of}
use Rattle.inline.specs.Rows.{whole_of, row_end}
use Rattle.inline.proofs.SpanBounds.{code_text}
use Rattle.inline.proofs.Demand3.{pairs_nest}
use Rattle.note.specs.Note.{MarkingOf, Marked, RowOf}
use Rattle.note.specs.Reading.{span_rows}
use Rattle.note.proofs.Markings.{marked}
use Rattle.note.proofs.Placing.{at_get_d}
use Rattle.note.proofs.Rows.{in_rows_iff}
use Rattle.note.proofs.Order.{later_ends_later}
use Rattle.page.specs.Reading.{is_code, is_image, row_start, text_start, text_end, describes}
use Rattle.page.proofs.Pieces.{RowHere, PairRow, code_row, pair_row, grows, opening_role, closing_role, one_closed}
use Rattle.page.proofs.Descriptions.{described_by, describes_it, image_is_no_code}
use Rattle.page.proofs.Extent.{row_some, link_text, row_reaches}
use Rattle.page.proofs.Here.{starts_after, in_order, marking_of, row_of}

-- ---- in one paragraph
module _ (T : Texts) (js : List Listed) (q : Placed) (m : Marking Tail) (c : MarkingOf T js q m) where
  before : (i k : ℕ) (x y : Piece) → At m.pieces i x → At m.pieces k y → i < k → x.end ≤ y.start
  before i k x y a b l = (tiles_order 0 (length q.bytes) m.pieces i k x y c.tiled a b l).1

  same_there : (i k : ℕ) (x y : Piece) → At m.pieces i x → At m.pieces k y → i ≡ k → x ≡ y
  same_there i k x y a b e = some-injective x y (sym a ∙ ap (get_elem? m.pieces) e ∙ b)

  -- the piece with which a span starts neither closes nor is a tail
  record Starter (x : Span Tail) : Type 0 where
    index : ℕ
    piece : Piece
    at : At m.pieces index piece
    no_tail : role piece.kind ≢ trailing
    no_closing : role piece.kind ≢ closing
    start_is : piece.start ≡ (whole_of x).start

  starter : (x : Span Tail) → SpanOf m x → Starter x
  starter (code_span y) o =
      record {
        index = o.index;
        piece = y;
        at = o.at;
        no_tail = λ z. nothing≢trailing (ap role (sym o.kind_is_code) ∙ z);
        no_closing = λ z. nothing≢closing (ap role (sym o.kind_is_code) ∙ z);
        start_is = refl;
      }
  starter (pair_span s o d t) l =
      record {
        index = l.from;
        piece = o;
        at = l.open_at;
        no_tail = λ z. opening≢trailing (sym (opening_role T js q m c s o d t l) ∙ z);
        no_closing = λ z. opening≢closing (sym (opening_role T js q m c s o d t l) ∙ z);
        start_is = refl;
      }

  module _ (s : Sort) (o d : Piece) (t : Tail) (l : TakenOf m s o d t) where
    tail_at : At m.pieces (suc l.to) (tail_piece d (length_of t))
    tail_at = c.tails s l.from l.to t d l.taken l.close_at

    closer_grows : d.start < d.end
    closer_grows = grows T js q m c l.to d l.close_at (λ z. closing≢trailing (sym (closing_role T js q m c s o d t l) ∙ z))

    opener_grows : o.start < o.end
    opener_grows = grows T js q m c l.from o l.open_at (λ z. opening≢trailing (sym (opening_role T js q m c s o d t l) ∙ z))

    -- a piece that comes after the closing piece and is no tail comes after the tail too
    after_tail : (k : ℕ) (y : Piece) → At m.pieces k y → role y.kind ≢ trailing → l.to < k → d.end + length_of t ≤ y.start
    after_tail k y a n h = cases (dec_lt (suc l.to) k)
      where
        cases : Dec (suc l.to < k) → d.end + length_of t ≤ y.start
        cases (yes z) = before (suc l.to) k (tail_piece d (length_of t)) y tail_at a z
        cases (no z) = absurd (n (ap (λ (p : Piece). role p.kind) (sym (same_there (suc l.to) k (tail_piece d (length_of t)) y tail_at a (omega arith)))))

    -- a span that ends before this one starts before its text ends
    starts_before_closing : (x : Span Tail) → SpanOf m x → (whole_of x).start < (whole_of x).end → (whole_of x).end < d.end + length_of t → (whole_of x).start < d.start
    starts_before_closing x o' g h = cases (dec_lt f.index l.to) (dec_lt l.to f.index)
      where
        f : Starter x
        f = starter x o'

        cases : Dec (f.index < l.to) → Dec (l.to < f.index) → (whole_of x).start < d.start
        cases (yes z) e = omega (arith, f.start_is, before f.index l.to f.piece d f.at l.close_at z, grows T js q m c f.index f.piece f.at f.no_tail)
        cases (no z) (yes v) = absurd (omega (arith, f.start_is, after_tail f.index f.piece f.at f.no_tail v))
        cases (no z) (no v) =
            absurd (f.no_closing (ap (λ (p : Piece). role p.kind) (same_there f.index l.to f.piece d f.at l.close_at (omega arith)) ∙ closing_role T js q m c s o d t l))

    -- a span that starts in its text ends there
    ends_in_text : (x : Span Tail) → SpanOf m x → o.end ≤ (whole_of x).start → (whole_of x).start < d.start → (whole_of x).end ≤ d.start
    ends_in_text (code_span y) e lo hi = cases (dec_lt e.index l.to) (dec_lt l.to e.index)
      where
        cases : Dec (e.index < l.to) → Dec (l.to < e.index) → y.end ≤ d.start
        cases (yes z) w = before e.index l.to y d e.at l.close_at z
        cases (no z) (yes v) = absurd (omega (arith, before l.to e.index d y l.close_at e.at v, closer_grows))
        cases (no z) (no v) =
            let same : y ≡ d = same_there e.index l.to y d e.at l.close_at (omega arith) in
            absurd (omega (arith, ap (λ (p : Piece). p.start) same))
    ends_in_text (pair_span s' o' d' t') k lo hi = nested (pairs_nest q.bytes (labels_of T js) m c l.from l.to k.from k.to pairs pairs' later)
      where
        pairs : m.pairs l.from l.to ≡ true
        pairs = ((taken_are c s l.from l.to t).0 l.taken).paired

        pairs' : m.pairs k.from k.to ≡ true
        pairs' = ((taken_are c s' k.from k.to t').0 k.taken).paired

        grows_there : o'.start < o'.end
        grows_there = grows T js q m c k.from o' k.open_at (λ z. opening≢trailing (sym (opening_role T js q m c s' o' d' t' k) ∙ z))

        later : l.from < k.from
        later = cases (dec_lt l.from k.from) (dec_lt k.from l.from)
          where
            cases : Dec (l.from < k.from) → Dec (k.from < l.from) → l.from < k.from
            cases (yes z) w = z
            cases (no z) (yes v) = absurd (omega (arith, before k.from l.from o' o k.open_at l.open_at v, opener_grows, grows_there))
            cases (no z) (no v) =
                let same : o ≡ o' = same_there l.from k.from o o' l.open_at k.open_at (omega arith) in
                absurd (omega (arith, ap (λ (p : Piece). p.start) same, opener_grows))

        nested : (l.to < k.from) ⊎ (k.to < l.to) → d'.end + length_of t' ≤ d.start
        nested (inl z) = absurd (omega (arith, before l.to k.from d o' l.close_at k.open_at z, closer_grows))
        nested (inr z) = tail_before (dec_lt (suc k.to) l.to)
          where
            tail' : At m.pieces (suc k.to) (tail_piece d' (length_of t'))
            tail' = c.tails s' k.from k.to t' d' k.taken k.close_at

            tail_before : Dec (suc k.to < l.to) → d'.end + length_of t' ≤ d.start
            tail_before (yes v) = before (suc k.to) l.to (tail_piece d' (length_of t')) d tail' l.close_at v
            tail_before (no v) =
                let same : tail_piece d' (length_of t') ≡ d = same_there (suc k.to) l.to (tail_piece d' (length_of t')) d tail' l.close_at (omega arith) in
                absurd (trailing≢closing (ap (λ (p : Piece). role p.kind) same ∙ closing_role T js q m c s o d t l))

  -- of two links or images the one that ends later has its text end later
  closers_in_order : (s z : Sort) (o d o' d' : Piece) (t t' : Tail) → TakenOf m s o d t → TakenOf m z o' d' t' → d.end + length_of t < d'.end + length_of t' → d.start < d'.start
  closers_in_order s z o d o' d' t t' l k h = cases (dec_lt l.to k.to) (dec_lt k.to l.to)
    where
      cases : Dec (l.to < k.to) → Dec (k.to < l.to) → d.start < d'.start
      cases (yes y) w = omega (arith, before l.to k.to d d' l.close_at k.close_at y, closer_grows s o d t l)
      cases (no y) (yes v) =
          absurd (omega (arith, after_tail z o' d' t' k l.to d l.close_at (λ w. closing≢trailing (sym (closing_role T js q m c s o d t l) ∙ w)) v, closer_grows s o d t l))
      cases (no y) (no v) =
          let same : d ≡ d' = same_there l.to k.to d d' l.close_at k.close_at (omega arith) in
          let l' : TakenOf m s o d' t = subst (λ (p : Piece). TakenOf m s o p t) same l in
          let one : d'.end + length_of t ≡ d'.end + length_of t' = ap (λ y. (whole_of y).end) (one_closed T js q m c s z o o' d' t t' (closer_grows z o' d' t' k) l' k) in
          absurd (omega (arith, ap (λ (p : Piece). p.end) same))

-- ---- over the paragraphs
paragraphs_apart : {s : List ℕ} {from : ℕ} {ps : List Placed} → Ordered s from ps → (j k : ℕ) (a b : Placed) → get_elem? ps j ≡ some a → get_elem? ps k ≡ some b → j < k
    → a.at + length a.bytes ≤ b.at
paragraphs_apart done j k a b e d l = absurd (none-ne-some a e)
paragraphs_apart (next w i o) j zero a b e d l = absurd (omega arith)
paragraphs_apart (next {p = p} w i o) zero (suc k) a b e d l =
    subst (λ (v : Placed). v.at + length v.bytes ≤ b.at) (some-injective p a e) (starts_after o k b d)
paragraphs_apart (next w i o) (suc j) (suc k) a b e d l = paragraphs_apart o j k a b e d (omega arith)

module _ (T : Texts) where
  abbrev n : Marked T
  n = marked T

  abbrev Row : List ℕ → Type 0
  Row x = RowOf T.note (definitions_of n.list) n.paragraphs n.markings x

  -- two rows stand in one paragraph, or in two of which the one ends before the other starts
  data Placing (x y : List ℕ) : Type 0 where
    together : (q : Placed) (m : Marking Tail) → MarkingOf T n.list q m → RowHere T n.list q m x → RowHere T n.list q m y → Placing x y
    first : row_end x ≤ row_start y → Placing x y
    second : row_end y ≤ row_start x → Placing x y

  placing : (x y : List ℕ) → In x (span_rows T) → In y (span_rows T) → Placing x y
  placing x y i j = cases ((in_rows_iff T n x).0 i) ((in_rows_iff T n y).0 j)
    where
      cases : Row x → Row y → Placing x y
      cases a b = by_index (row_reaches T n x a) (row_reaches T n y b) (dec_lt a.index b.index) (dec_lt b.index a.index)
        where
          by_index : (a.paragraph.at ≤ row_start x) × (row_start x ≤ row_end x) × (row_end x ≤ a.paragraph.at + length a.paragraph.bytes)
              → (b.paragraph.at ≤ row_start y) × (row_start y ≤ row_end y) × (row_end y ≤ b.paragraph.at + length b.paragraph.bytes)
              → Dec (a.index < b.index) → Dec (b.index < a.index) → Placing x y
          by_index (p, q, r) (t, u, v) (yes z) w = first (omega (arith, paragraphs_apart (in_order T n) a.index b.index a.paragraph b.paragraph a.paragraph_at b.paragraph_at z))
          by_index (p, q, r) (t, u, v) (no z) (yes w) = second (omega (arith, paragraphs_apart (in_order T n) b.index a.index b.paragraph a.paragraph b.paragraph_at a.paragraph_at w))
          by_index e f (no z) (no w) =
              together a.paragraph a.marking (marking_of T n a.index a.paragraph a.marking a.paragraph_at a.marking_at)
              (row_of T n a.index a.paragraph a.marking a.paragraph_at a.marking_at x a refl)
              (row_of T n a.index a.paragraph a.marking a.paragraph_at a.marking_at y b (omega arith))

  pub closes_later : (i j : ℕ) (x y : List ℕ) → i < j → get_elem? (span_rows T) i ≡ some x → get_elem? (span_rows T) j ≡ some y → is_code x ≡ false → is_code y ≡ false → text_end x < text_end y
  closes_later i j x y l e d a b = cases (placing x y (i, e) (j, d))
    where
      ends : row_end x < row_end y
      ends = later_ends_later T i j x y l e d

      cases : Placing x y → text_end x < text_end y
      cases (first z) = let (u, v, w) = link_text T x (i, e) a in let (u', v', w') = link_text T y (j, d) b in omega arith
      cases (second z) = absurd (omega (arith, ends, row_some T x (i, e)))
      cases (together q m c f g) = by_rows (pair_row T n.list q m c x f a) (pair_row T n.list q m c y g b)
        where
          by_rows : PairRow T n.list q m c x → PairRow T n.list q m c y → text_end x < text_end y
          by_rows r s =
              let ex : q.at + (r.closer.end + length_of r.with_tail) ≡ row_end x = ap row_end r.row_is in
              let ey : q.at + (s.closer.end + length_of s.with_tail) ≡ row_end y = ap row_end s.row_is in
              let tx : q.at + r.closer.start ≡ text_end x = ap text_end r.row_is in
              let ty : q.at + s.closer.start ≡ text_end y = ap text_end s.row_is in
              omega (arith, closers_in_order T n.list q m c r.sort s.sort r.opener r.closer s.opener s.closer r.with_tail s.with_tail r.taken s.taken (omega (arith, ends)))

  -- ---- a row, and an image's
  module _ (x y : List ℕ) (i : In x (span_rows T)) (j : In y (span_rows T)) (im : is_image y ≡ true) where
    abbrev no_code : is_code y ≡ false
    no_code = image_is_no_code y im

    abbrev text : (row_start y < text_start y) × (text_start y ≤ text_end y) × (text_end y < row_end y)
    text = link_text T y j no_code

    -- it starts in the description, so that it ends before the image does
    ends_before : text_start y ≤ row_start x → row_start x < text_end y → row_end x < row_end y
    ends_before lo hi = cases (placing x y i j)
      where
        cases : Placing x y → row_end x < row_end y
        cases (first z) = absurd (omega (arith, text, row_some T x i))
        cases (second z) = absurd (omega (arith, text))
        cases (together q m c f g) = by_row (pair_row T n.list q m c y g no_code)
          where
            by_row : PairRow T n.list q m c y → row_end x < row_end y
            by_row r =
                let sx : q.at + (whole_of f.span).start ≡ row_start x = ap row_start f.row_is in
                let ex : q.at + (whole_of f.span).end ≡ row_end x = ap row_end f.row_is in
                let ts : q.at + r.opener.end ≡ text_start y = ap text_start r.row_is in
                let te : q.at + r.closer.start ≡ text_end y = ap text_end r.row_is in
                omega (arith, text, ends_in_text T n.list q m c r.sort r.opener r.closer r.with_tail r.taken f.span f.of_marking (omega arith) (omega arith))

    -- it ends before the image does, and does not start before the description
    starts_inside : row_end x < row_end y → text_start y ≤ row_start x → row_start x < text_end y
    starts_inside h lo = cases (placing x y i j)
      where
        cases : Placing x y → row_start x < text_end y
        cases (first z) = absurd (omega (arith, text, row_some T x i))
        cases (second z) = absurd (omega (arith, row_some T x i))
        cases (together q m c f g) = by_row (pair_row T n.list q m c y g no_code)
          where
            by_row : PairRow T n.list q m c y → row_start x < text_end y
            by_row r =
                let sx : q.at + (whole_of f.span).start ≡ row_start x = ap row_start f.row_is in
                let ex : q.at + (whole_of f.span).end ≡ row_end x = ap row_end f.row_is in
                let ey : q.at + (r.closer.end + length_of r.with_tail) ≡ row_end y = ap row_end r.row_is in
                let te : q.at + r.closer.start ≡ text_end y = ap text_end r.row_is in
                omega (
                  arith,
                  starts_before_closing T n.list q m c r.sort r.opener r.closer r.with_tail r.taken f.span f.of_marking (omega (arith, row_some T x i)) (omega arith),
                )

  pub described_iff : (i j : ℕ) (x y : List ℕ) → get_elem? (span_rows T) i ≡ some x → get_elem? (span_rows T) j ≡ some y
      → (describes x y ≡ true) ↔ ((i < j) × (is_image y ≡ true) × (text_start y ≤ row_start x))
  described_iff i j x y e d = (to, back)
    where
      to : describes x y ≡ true → (i < j) × (is_image y ≡ true) × (text_start y ≤ row_start x)
      to h =
          let (im, lo, hi) = described_by x y h in
          let ends : row_end x < row_end y = ends_before x y (i, e) (j, d) im lo hi in
          (in_order_of ends (dec_lt i j) (dec_lt j i), im, lo)
        where
          in_order_of : row_end x < row_end y → Dec (i < j) → Dec (j < i) → i < j
          in_order_of g (yes z) w = z
          in_order_of g (no z) (yes w) = absurd (omega (arith, later_ends_later T j i y x w d e))
          in_order_of g (no z) (no w) =
              let k : i ≡ j = omega arith in
              let same : x ≡ y = some-injective x y (sym e ∙ ap (get_elem? (span_rows T)) k ∙ d) in
              absurd (omega (arith, ap row_end same))

      back : (i < j) × (is_image y ≡ true) × (text_start y ≤ row_start x) → describes x y ≡ true
      back (l, im, lo) = describes_it x y im lo (starts_inside x y (i, e) (j, d) im (later_ends_later T i j x y l e d) lo)

  -- ---- how many there are
  two_bytes : (x : List ℕ) → In x (span_rows T) → row_start x + 2 ≤ row_end x
  two_bytes x i = by (is_code x) code_two (λ a. let (u, v, w) = link_text T x i a in omega arith)
    where
      code_two : is_code x ≡ true → row_start x + 2 ≤ row_end x
      code_two a =
          let r = (in_rows_iff T n x).0 i in
          let q = r.paragraph in
          let m = r.marking in
          let c = marking_of T n r.index q m r.paragraph_at r.marking_at in
          let y = code_row T n.list q m c x (row_of T n r.index q m r.paragraph_at r.marking_at x r refl) a in
          let b = code_text q.bytes (labels_of T n.list) m c y.piece y.code_of in
          let sx : q.at + y.piece.start ≡ row_start x = ap row_start y.row_is in
          let ex : q.at + y.piece.end ≡ row_end x = ap row_end y.row_is in
          omega (arith, b.apart, b.opening_string.nonempty)

  pub row_ends : (k : ℕ) (x : List ℕ) → get_elem? (span_rows T) k ≡ some x → k + 2 ≤ row_end x
  row_ends zero x e = omega (arith, two_bytes x (zero, e))
  row_ends (suc k) x e =
      let y = get_or (span_rows T) k [] in
      let d = at_get_d (span_rows T) k [] (omega (arith, at_inside (span_rows T) (suc k) x e)) in
      omega (arith, row_ends k y d, later_ends_later T k (suc k) y x (omega arith) d e)
