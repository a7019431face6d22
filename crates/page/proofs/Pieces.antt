-- The pieces of a marking and the rows: which row stands at which piece.
use Prim.Native.Nat.{ℕ, ◌+◌, ◌≤◌, ◌<◌}
use native.Mathlib.Decide.{dec_lt}
use native.Mathlib.Omega.{arith}
use mathlib.Core.Path.{◌≡◌, refl, sym, ap, ◌∙◌, subst}
use mathlib.Core.Logic.{◌≢◌}
use mathlib.Core.Option.{none, some, some-injective}
use mathlib.Core.List.{List}
use mathlib.Core.Bool.{true, false, true≢false, not}
use borrow.Author.Tests.{eq-eqb, eqb-true, not-true}
use lib.ListN.{length, get_elem?}
use Rattle.scan.proofs.Test.{by, and_left, and_right}
use Rattle.marking.specs.Marking.{Sort, link, image, Kind, escape, code, plain, closes, tail, opens, Role, opening, closing, trailing, role, Piece, Marking, chosen, At, Plays}
use Rattle.marking.specs.Reading.{sort_of}
use Rattle.scan.specs.Member.{In}
use Rattle.marking.specs.Spans.{Span, code_span, pair_span, SpanOf, CodeOf, TakenOf}
use Rattle.marking.proofs.Tiles.{tiles_order}
use Rattle.marking.proofs.Pairs.{taken_are, taken_pair}
use Rattle.marking.proofs.Roles.{nothing≢trailing, opening≢trailing, closing≢trailing, nothing≢closing, opening≢closing, trailing≢closing}
use Rattle.texts.specs.Texts.{Texts}
use Rattle.block.specs.Block.{Placed}
use Rattle.row.specs.Row.{Listed, definitions_of}
use Rattle.row.specs.First.{labels_of}
use Rattle.inline.proofs.PieceBounds.{sized}
use Rattle.inline.specs.Tails.{Tail, inline, full, collapsed, shortcut}
use Rattle.inline.specs.Rows.{row_end}
use Rattle.inline.specs.ReadingRows.{span_row}
use Rattle.inline.proofs.Starting.{starts_iff}
use Rattle.inline.proofs.Demand3.{every_bracket_in_one_pair_at_most}
use Rattle.note.specs.Note.{MarkingOf}
use Rattle.page.specs.Reading.{is_code, is_image, row_start, text_start, text_end, first_row, starts}
use Rattle.page.specs.Reading as reading
use Rattle.page.proofs.Found.{found_in, not_found}

-- the row of a span of the paragraph q of the note, where js is the joined list of the texts T
abbrev pub row_in : Texts → List Listed → Placed → Span Tail → List ℕ
row_in T js q = span_row T.note q.at q.bytes (definitions_of js)

-- the row is that of a span in the marking m of the paragraph q
pub record RowHere (T : Texts) (js : List Listed) (q : Placed) (m : Marking Tail) (row : List ℕ) : Type 0 where
  pub span : Span Tail
  pub of_marking : SpanOf m span
  pub row_is : row_in T js q span ≡ row

-- what the rows are to one paragraph: those of its spans are there, and no other reaches into it; none is empty, and the text of a link or an image lies within it
pub record RowsHere (T : Texts) (js : List Listed) (q : Placed) (m : Marking Tail) (rows : List (List ℕ)) : Type 0 where
  pub each : (x : Span Tail) → SpanOf m x → In (row_in T js q x) rows
  pub covering : (row : List ℕ) → In row rows → (i : ℕ) → i < length q.bytes → row_start row ≤ q.at + i → q.at + i < row_end row → RowHere T js q m row
  pub not_empty : (row : List ℕ) → In row rows → row_start row < row_end row
  pub text_ends : (row : List ℕ) → In row rows → is_code row ≡ false → (row_start row < text_start row) × (text_start row ≤ text_end row) × (text_end row < row_end row)

-- ---- the kinds by their numbers
pub pair_is_no_code : (T : Texts) (js : List Listed) (q : Placed) (x : Sort) (o c : Piece) (t : Tail) → is_code (row_in T js q (pair_span x o c t)) ≡ false
pair_is_no_code T js q link o c (inline n d t) = refl
pair_is_no_code T js q link o c (full n k) = refl
pair_is_no_code T js q link o c (collapsed k) = refl
pair_is_no_code T js q link o c (shortcut k) = refl
pair_is_no_code T js q image o c (inline n d t) = refl
pair_is_no_code T js q image o c (full n k) = refl
pair_is_no_code T js q image o c (collapsed k) = refl
pair_is_no_code T js q image o c (shortcut k) = refl

pub link_is_no_image : (T : Texts) (js : List Listed) (q : Placed) (o c : Piece) (t : Tail) → is_image (row_in T js q (pair_span link o c t)) ≡ false
link_is_no_image T js q o c (inline n d t) = refl
link_is_no_image T js q o c (full n k) = refl
link_is_no_image T js q o c (collapsed k) = refl
link_is_no_image T js q o c (shortcut k) = refl

pub image_is_one : (T : Texts) (js : List Listed) (q : Placed) (o c : Piece) (t : Tail) → is_image (row_in T js q (pair_span image o c t)) ≡ true
image_is_one T js q o c (inline n d t) = refl
image_is_one T js q o c (full n k) = refl
image_is_one T js q o c (collapsed k) = refl
image_is_one T js q o c (shortcut k) = refl

pub closes_kind : (k : Kind) → role k ≡ closing → k ≡ closes
closes_kind closes e = refl
closes_kind escape e = absurd (nothing≢closing e)
closes_kind code e = absurd (nothing≢closing e)
closes_kind plain e = absurd (nothing≢closing e)
closes_kind tail e = absurd (trailing≢closing e)
closes_kind (opens x) e = absurd (opening≢closing e)

module _ (T : Texts) (js : List Listed) (q : Placed) (m : Marking Tail) (c : MarkingOf T js q m) where
  abbrev ps : List Piece
  ps = m.pieces

  role_of : {r : Role} (k : ℕ) (x : Piece) → At ps k x → Plays r ps k → role x.kind ≡ r
  role_of k x a y = ap (λ (z : Piece). role z.kind) (some-injective x y.piece (sym a ∙ y.at)) ∙ y.as_role

  pub grows : (k : ℕ) (x : Piece) → At ps k x → role x.kind ≢ trailing → x.start < x.end
  grows k x a n = let f = (starts_iff q.bytes x).0 (c.kinds k x a n) in subst (λ (y : Piece). x.start < y.end) f.from (sized q.bytes x.start f.inside).grows

  pub ends_inside : (k : ℕ) (x : Piece) → At ps k x → role x.kind ≢ trailing → x.end ≤ length q.bytes
  ends_inside k x a n =
      let f = (starts_iff q.bytes x).0 (c.kinds k x a n) in
      subst (λ (y : Piece). y.end ≤ length q.bytes) f.from (sized q.bytes x.start f.inside).within

  pub stands_inside : (k : ℕ) (x : Piece) → At ps k x → role x.kind ≢ trailing → x.start < length q.bytes
  stands_inside k x a n = ((starts_iff q.bytes x).0 (c.kinds k x a n)).inside

  -- a piece that starts within another is that one
  pub same_index : (k : ℕ) (x : Piece) (j : ℕ) (y : Piece) → At ps k x → At ps j y → role y.kind ≢ trailing → x.start ≤ y.start → y.start < x.end → k ≡ j
  same_index k x j y a b n l h = cases (dec_lt k j) (dec_lt j k)
    where
      cases : Dec (k < j) → Dec (j < k) → k ≡ j
      cases (yes z) d = absurd (omega (arith, (tiles_order 0 (length q.bytes) ps k j x y c.tiled a b z).1))
      cases (no z) (yes w) = absurd (omega (arith, (tiles_order 0 (length q.bytes) ps j k y x c.tiled b a w).1, grows j y b n))
      cases (no z) (no w) = omega arith

  pub same_piece : (k : ℕ) (x : Piece) (j : ℕ) (y : Piece) → At ps k x → At ps j y → k ≡ j → x ≡ y
  same_piece k x j y a b e = some-injective x y (sym a ∙ ap (get_elem? ps) e ∙ b)

  -- the pieces of a link or an image
  pub opener_kind : (x : Sort) (o d : Piece) (t : Tail) → TakenOf m x o d t → o.kind ≡ opens x
  opener_kind x o d t l =
      let h = ((taken_are c x l.from l.to t).0 l.taken).has_tail in
      ap (λ (z : Piece). z.kind) (some-injective o h.open_piece (sym l.open_at ∙ h.open_at)) ∙ h.of_sort

  pub opening_role : (x : Sort) (o d : Piece) (t : Tail) → TakenOf m x o d t → role o.kind ≡ opening
  opening_role x o d t l = ap role (opener_kind x o d t l)

  pub closing_role : (x : Sort) (o d : Piece) (t : Tail) → TakenOf m x o d t → role d.kind ≡ closing
  closing_role x o d t l = role_of l.to d l.close_at (taken_pair c x l.from l.to t l.taken).closed

  -- the row of a link or an image, and of a code span
  pub record PairRow (r : List ℕ) : Type 0 where
    pub sort : Sort
    pub opener : Piece
    pub closer : Piece
    pub with_tail : Tail
    pub taken : TakenOf m sort opener closer with_tail
    pub row_is : row_in T js q (pair_span sort opener closer with_tail) ≡ r

  pub record CodeRow (r : List ℕ) : Type 0 where
    pub piece : Piece
    pub code_of : CodeOf m piece
    pub row_is : row_in T js q (code_span piece) ≡ r

  pub code_row : (r : List ℕ) → RowHere T js q m r → is_code r ≡ true → CodeRow r
  code_row r h e = cases h.span h.of_marking h.row_is
    where
      cases : (x : Span Tail) → SpanOf m x → row_in T js q x ≡ r → CodeRow r
      cases (code_span y) o k = record { piece = y; code_of = o; row_is = k }
      cases (pair_span x a b t) o k = absurd (true≢false (sym e ∙ ap is_code (sym k) ∙ pair_is_no_code T js q x a b t))

  pub pair_row : (r : List ℕ) → RowHere T js q m r → is_code r ≡ false → PairRow r
  pair_row r h e = cases h.span h.of_marking h.row_is
    where
      cases : (x : Span Tail) → SpanOf m x → row_in T js q x ≡ r → PairRow r
      cases (code_span y) o k = absurd (true≢false (ap is_code k ∙ e))
      cases (pair_span x a b t) o k = record { sort = x; opener = a; closer = b; with_tail = t; taken = o; row_is = k }

  module _ (rows : List (List ℕ)) (h : RowsHere T js q m rows) where
    -- ---- the row that is found at a place i within the piece x is that of x
    module _ (k : ℕ) (x : Piece) (a : At ps k x) (i : ℕ) (lo : x.start ≤ i) (hi : i < x.end) (in_p : i < length q.bytes) (r : List ℕ) where
      -- a code span, or a link or an image whose opening piece is x
      pub data StartsHere : Type 0 where
        as_code : i ≡ x.start → x.kind ≡ code → row_in T js q (code_span x) ≡ r → StartsHere
        as_opening : i ≡ x.start → (s : Sort) (d : Piece) (t : Tail) → TakenOf m s x d t → row_in T js q (pair_span s x d t) ≡ r → StartsHere

      as_code_row : row_start r ≡ q.at + i → CodeRow r → StartsHere
      as_code_row st y =
          let place : q.at + y.piece.start ≡ q.at + i = ap row_start y.row_is ∙ st in
          let quiet : role y.piece.kind ≢ trailing = λ z. nothing≢trailing (ap role (sym y.code_of.kind_is_code) ∙ z) in
          let ix : k ≡ y.code_of.index = same_index k x y.code_of.index y.piece a y.code_of.at quiet (omega arith) (omega arith) in
          let same : x ≡ y.piece = same_piece k x y.code_of.index y.piece a y.code_of.at ix in
          let start : x.start ≡ y.piece.start = ap (λ (z : Piece). z.start) same in
          as_code (omega arith) (ap (λ (z : Piece). z.kind) same ∙ y.code_of.kind_is_code) (ap (λ (z : Piece). row_in T js q (code_span z)) same ∙ y.row_is)

      as_pair_row : row_start r ≡ q.at + i → PairRow r → StartsHere
      as_pair_row st y =
          let place : q.at + y.opener.start ≡ q.at + i = ap row_start y.row_is ∙ st in
          let quiet : role y.opener.kind ≢ trailing = λ z. opening≢trailing (sym (opening_role y.sort y.opener y.closer y.with_tail y.taken) ∙ z) in
          let ix : k ≡ y.taken.from = same_index k x y.taken.from y.opener a y.taken.open_at quiet (omega arith) (omega arith) in
          let same : y.opener ≡ x = sym (same_piece k x y.taken.from y.opener a y.taken.open_at ix) in
          let start : y.opener.start ≡ x.start = ap (λ (z : Piece). z.start) same in
          as_opening (omega arith) y.sort y.closer y.with_tail (subst (λ (z : Piece). TakenOf m y.sort z y.closer y.with_tail) same y.taken)
          (ap (λ (z : Piece). row_in T js q (pair_span y.sort z y.closer y.with_tail)) (sym same) ∙ y.row_is)

      pub start_at : first_row (starts (q.at + i)) rows ≡ some r → StartsHere
      start_at e =
          let (j, t) = found_in (starts (q.at + i)) rows r e in
          let st : row_start r ≡ q.at + i = eqb-true (row_start r) (q.at + i) t in
          let here = h.covering r j i in_p (omega arith) (omega (arith, h.not_empty r j)) in
          by (is_code r) (λ y. as_code_row st (code_row r here y)) (λ y. as_pair_row st (pair_row r here y))

      -- a link or an image whose closing piece is x
      pub record ClosesHere : Type 0 where
        pub sort : Sort
        pub opener : Piece
        pub with_tail : Tail
        pub taken : TakenOf m sort opener x with_tail
        pub row_is : row_in T js q (pair_span sort opener x with_tail) ≡ r

      pub close_at : first_row (reading.closes (q.at + i)) rows ≡ some r → ClosesHere
      close_at e =
          let (j, t) = found_in (reading.closes (q.at + i)) rows r e in
          let st : text_end r ≡ q.at + i = eqb-true (text_end r) (q.at + i) (and_right (not (is_code r)) _ t) in
          let no_code : is_code r ≡ false = not-true _ (and_left (not (is_code r)) _ t) in
          let (u, v, b) = h.text_ends r j no_code in
          let y = pair_row r (h.covering r j i in_p (omega arith) (omega arith)) no_code in
          let place : q.at + y.closer.start ≡ q.at + i = ap text_end y.row_is ∙ st in
          let quiet : role y.closer.kind ≢ trailing = λ z. closing≢trailing (sym (closing_role y.sort y.opener y.closer y.with_tail y.taken) ∙ z) in
          let ix : k ≡ y.taken.to = same_index k x y.taken.to y.closer a y.taken.close_at quiet (omega arith) (omega arith) in
          let same : y.closer ≡ x = sym (same_piece k x y.taken.to y.closer a y.taken.close_at ix) in
          record {
            sort = y.sort;
            opener = y.opener;
            with_tail = y.with_tail;
            taken = subst (λ (z : Piece). TakenOf m y.sort y.opener z y.with_tail) same y.taken;
            row_is = ap (λ (z : Piece). row_in T js q (pair_span y.sort y.opener z y.with_tail)) (sym same) ∙ y.row_is;
          }

    -- ---- the row of a span is found
    pub code_found : (x : Piece) → CodeOf m x → first_row (starts (q.at + x.start)) rows ≡ none → ⊥
    code_found x o e =
        not_found (starts (q.at + x.start)) rows e (row_in T js q (code_span x)) (h.each (code_span x) o) (eq-eqb (q.at + x.start) (q.at + x.start) refl)

    pub open_found : (x : Sort) (o d : Piece) (t : Tail) → TakenOf m x o d t → first_row (starts (q.at + o.start)) rows ≡ none → ⊥
    open_found x o d t l e =
        not_found (starts (q.at + o.start)) rows e (row_in T js q (pair_span x o d t)) (h.each (pair_span x o d t) l) (eq-eqb (q.at + o.start) (q.at + o.start) refl)

    pub close_found : (x : Sort) (o d : Piece) (t : Tail) → TakenOf m x o d t → first_row (reading.closes (q.at + d.start)) rows ≡ none → ⊥
    close_found x o d t l e =
        not_found (reading.closes (q.at + d.start)) rows e (row_in T js q (pair_span x o d t)) (h.each (pair_span x o d t) l)
        (rw (pair_is_no_code T js q x o d t) (eq-eqb (q.at + d.start) (q.at + d.start) refl))

  -- ---- two links or images with one opening piece, or with one closing piece, are one
  pairs_of : (x : Sort) (o d : Piece) (t : Tail) (l : TakenOf m x o d t) → m.pairs l.from l.to ≡ true
  pairs_of x o d t l = ((taken_are c x l.from l.to t).0 l.taken).paired

  same_tail : (x z : Sort) (i j i' j' : ℕ) (t u : Tail) → x ≡ z → i ≡ i' → j ≡ j' → chosen x m i j ≡ some t → chosen z m i' j' ≡ some u → t ≡ u
  same_tail x z i j i' j' t u s e f a b =
      some-injective t u (sym a ∙ ap (λ (y : Sort). chosen y m i j) s ∙ ap (λ (n : ℕ). chosen z m n j) e ∙ ap (chosen z m i') f ∙ b)

  same_span : (x z : Sort) (o d o' d' : Piece) (t u : Tail) → x ≡ z → o ≡ o' → d ≡ d' → t ≡ u → pair_span x o d t ≡ pair_span z o' d' u
  same_span x z o d o' d' t u s e f g =
      ap (λ (y : Sort). pair_span y o d t) s ∙ ap (λ (p : Piece). pair_span z p d t) e ∙ ap (λ (p : Piece). pair_span z o' p t) f ∙ ap (pair_span z o' d') g

  pub one_opened : (x z : Sort) (o d e : Piece) (t u : Tail) → o.start < o.end → TakenOf m x o d t → TakenOf m z o e u → pair_span x o d t ≡ pair_span z o e u
  one_opened x z o d e t u g l k =
      let quiet : role o.kind ≢ trailing = λ y. opening≢trailing (sym (opening_role x o d t l) ∙ y) in
      let ix : l.from ≡ k.from = same_index l.from o k.from o l.open_at k.open_at quiet (omega arith) (omega arith) in
      let sorts : x ≡ z = ap sort_of (sym (opener_kind x o d t l) ∙ opener_kind z o e u k) in
      let iy : l.to ≡ k.to =
      (every_bracket_in_one_pair_at_most q.bytes (labels_of T js) m c).for_opening l.from l.to k.to (pairs_of x o d t l) (ap (λ (i : ℕ). m.pairs i k.to) ix ∙ pairs_of z o e u k) in
      same_span x z o d o e t u sorts refl (same_piece l.to d k.to e l.close_at k.close_at iy) (same_tail x z l.from l.to k.from k.to t u sorts ix iy l.taken k.taken)

  pub one_closed : (x z : Sort) (o o' d : Piece) (t u : Tail) → d.start < d.end → TakenOf m x o d t → TakenOf m z o' d u → pair_span x o d t ≡ pair_span z o' d u
  one_closed x z o o' d t u g l k =
      let quiet : role d.kind ≢ trailing = λ y. closing≢trailing (sym (closing_role x o d t l) ∙ y) in
      let iy : l.to ≡ k.to = same_index l.to d k.to d l.close_at k.close_at quiet (omega arith) (omega arith) in
      let ix : l.from ≡ k.from =
      (every_bracket_in_one_pair_at_most q.bytes (labels_of T js) m c).for_closing l.from k.from l.to (pairs_of x o d t l) (ap (m.pairs k.from) iy ∙ pairs_of z o' d u k) in
      let same : o ≡ o' = same_piece l.from o k.from o' l.open_at k.open_at ix in
      let sorts : x ≡ z = ap sort_of (sym (opener_kind x o d t l) ∙ ap (λ (p : Piece). p.kind) same ∙ opener_kind z o' d u k) in
      same_span x z o d o' d t u sorts same refl (same_tail x z l.from l.to k.from k.to t u sorts ix iy l.taken k.taken)
