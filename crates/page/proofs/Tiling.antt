-- The law gives something for a whole paragraph: its pieces make up ranges that cut neither a link nor an image.
use Prim.Native.Nat.{ℕ, zero, suc, ◌+◌, ◌≤◌, ◌<◌}
use native.Mathlib.Nat.{add-zero}
use native.Mathlib.Decide.{dec_lt}
use native.Mathlib.Omega.{arith}
use mathlib.Core.Path.{◌≡◌, refl, sym, ap, ◌∙◌, subst}
use mathlib.Core.Logic.{◌≢◌, ◌⊎◌, inl, inr}
use mathlib.Core.Option.{some, some-injective, none-ne-some}
use mathlib.Core.List.{List, [], ◌∷◌, ◌++◌}
use mathlib.Core.Bool.{true, false}
use lib.ListN.{length, get_or, take, drop, get_elem?}
use lib.Seq.{take_all}
use Rattle.scan.specs.Byte.{escapes}
use Rattle.marking.specs.Marking.{Sort, code, plain, trailing, role, Piece, Marking, chosen, At, Tiles, Paired, tail_piece, FollowsTaken}
use Rattle.marking.specs.Spans.{Span, code_span, pair_span, SpanOf, TakenOf}
use Rattle.marking.proofs.Lists.{at_inside}
use Rattle.marking.proofs.Tiles.{reach, tiles_start, tiles_order}
use Rattle.marking.proofs.Pairs.{taken_are, taken_pair}
use Rattle.marking.proofs.Roles.{nothing≢opening, nothing≢closing, opening≢closing, opening≢trailing, trailing≢opening, trailing≢closing}
use Rattle.texts.specs.Texts.{Texts}
use Rattle.block.specs.Block.{Placed}
use Rattle.row.specs.Row.{Listed}
use Rattle.row.specs.First.{labels_of}
use Rattle.definition.proofs.NotePlaces.{Inside}
use Rattle.inline.specs.Pieces.{Starts, an_escape, a_code_span, backticks, opening as opens, image_opening, closing as closes, other}
use Rattle.inline.specs.Tails.{Tail, length_of}
use Rattle.inline.specs.Rows.{row_end}
use Rattle.inline.proofs.Demand3.{pairs_nest, every_bracket_in_one_pair_at_most}
use Rattle.note.specs.Note.{MarkingOf}
use Rattle.note.proofs.Placing.{at_get_d}
use Rattle.escaping.specs.Escaping.{escaped}
use Rattle.code.proofs.Element.{code_span_iff}
use Rattle.page.specs.ByRows.{span_of, IsSort, Within, TextAt, RangeIs}
use Rattle.page.specs.ByRows as by_rows
use Rattle.page.specs.Reading.{row_start, first_row, starts, tagged}
use Rattle.page.specs.Reading as reading
use Rattle.page.proofs.Found.{by_found}
use Rattle.page.proofs.Pieces.{row_in, RowsHere, StartsHere, as_code, as_opening, grows, stands_inside, ends_inside, same_index, start_at, close_at, open_found, close_found, opening_role, closing_role}
use Rattle.page.proofs.Texts.{open_tag_iff, close_tag_iff}
use Rattle.page.proofs.Steps.{no_escape, image_bytes, tick_no_escape}
use Rattle.page.proofs.Numbers.{sort_number}
use Rattle.page.proofs.Ranges.{tags_some}

-- ---- where pieces end
reach_next : (a : ℕ) (ps : List Piece) (k : ℕ) (x : Piece) → At ps k x → reach a (take (suc k) ps) ≡ x.end
reach_next a [] k x h = absurd (none-ne-some x h)
reach_next a (y ∷ ps) zero x h = ap (λ (z : Piece). z.end) (some-injective y x h)
reach_next a (y ∷ ps) (suc k) x h = reach_next y.end ps k x h

reach_all : (a b : ℕ) (ps : List Piece) → Tiles a ps b → reach a ps ≡ b
reach_all a b [] t = t
reach_all a b (x ∷ ps) t = reach_all x.end b ps t.2

module _ (T : Texts) (js : List Listed) (q : Placed) (m : Marking Tail) (c : MarkingOf T js q m) (w : Inside T.note q) (rows : List (List ℕ)) (h : RowsHere T js q m rows) where
  -- the law gives something from place a to place b
  abbrev Some : ℕ → ℕ → Type 0
  Some a b = (v : List ℕ) × RangeIs T js rows q a b v

  both : {a b d : ℕ} → Some a b → Some b d → Some a d
  both (v, x) (u, y) = (v ++ u, by_rows.beside x y)

  before : (i k : ℕ) (x y : Piece) → At m.pieces i x → At m.pieces k y → i < k → x.end ≤ y.start
  before i k x y a b l = (tiles_order 0 (length q.bytes) m.pieces i k x y c.tiled a b l).1

  -- ---- text
  module _ (k : ℕ) (x : Piece) (a : At m.pieces k x) (no_tail : role x.kind ≢ trailing) (no_code : x.kind ≢ code) (no_opening : (s : Sort) (d : Piece) (t : Tail) → TakenOf m s x d t → ⊥)
      (no_closing : (s : Sort) (o : Piece) (t : Tail) → TakenOf m s o x t → ⊥) (i : ℕ) (lo : x.start ≤ i) (hi : i < x.end) where
    same_there : (j : ℕ) (y : Piece) → At m.pieces j y → k ≡ j → x ≡ y
    same_there j y b e = some-injective x y (sym a ∙ ap (get_elem? m.pieces) e ∙ b)

    no_code_there : (j : ℕ) (y : Piece) → At m.pieces j y → y.kind ≡ code → y.start ≤ i → i < y.end → ⊥
    no_code_there j y b e l u = cases (dec_lt k j) (dec_lt j k)
      where
        cases : Dec (k < j) → Dec (j < k) → ⊥
        cases (yes z) d = omega (arith, before k j x y a b z)
        cases (no z) (yes v) = omega (arith, before j k y x b a v)
        cases (no z) (no v) = no_code (ap (λ (p : Piece). p.kind) (same_there j y b (omega arith)) ∙ e)

    module _ (s : Sort) (o d : Piece) (t : Tail) (l : TakenOf m s o d t) where
      after_opening : o.start ≤ i → o.end ≤ i
      after_opening u = cases (dec_lt l.from k) (dec_lt k l.from)
        where
          cases : Dec (l.from < k) → Dec (k < l.from) → o.end ≤ i
          cases (yes z) e = omega (arith, before l.from k o x l.open_at a z)
          cases (no z) (yes v) = absurd (omega (arith, before k l.from x o a l.open_at v))
          cases (no z) (no v) = absurd (no_opening s d t (subst (λ (p : Piece). TakenOf m s p d t) (sym (same_there l.from o l.open_at (omega arith))) l))

      before_closing : i < d.end + length_of t → i < d.start
      before_closing u = cases (dec_lt k l.to) (dec_lt l.to k) (dec_lt (suc l.to) k)
        where
          tail_at : At m.pieces (suc l.to) (tail_piece d (length_of t))
          tail_at = c.tails s l.from l.to t d l.taken l.close_at

          cases : Dec (k < l.to) → Dec (l.to < k) → Dec (suc l.to < k) → i < d.start
          cases (yes z) e f = omega (arith, before k l.to x d a l.close_at z)
          cases (no z) (yes v) (yes f) = absurd (omega (arith, before (suc l.to) k (tail_piece d (length_of t)) x tail_at a f))
          cases (no z) (yes v) (no f) = absurd (no_tail (ap (λ (p : Piece). role p.kind) (same_there (suc l.to) (tail_piece d (length_of t)) tail_at (omega arith))))
          cases (no z) (no v) f = absurd (no_closing s o t (subst (λ (p : Piece). TakenOf m s o p t) (sym (same_there l.to d l.close_at (omega arith))) l))

    text_at : i < length q.bytes → TextAt T js rows q i
    text_at l row j (u, v) = let r = h.covering row j i l u v in cases r.span r.of_marking r.row_is
      where
        cases : (y : Span Tail) → SpanOf m y → row_in T js q y ≡ row → (x : Sort) × IsSort x row × Within T js rows q i (span_of row).text
        cases (code_span y) o e =
            let st : q.at + y.start ≡ row_start row = ap row_start e in
            let en : q.at + y.end ≡ row_end row = ap row_end e in
            absurd (no_code_there o.index y o.at o.kind_is_code (omega arith) (omega arith))
        cases (pair_span s o d t) y e =
            let st : q.at + o.start ≡ row_start row = ap row_start e in
            let en : q.at + (d.end + length_of t) ≡ row_end row = ap row_end e in
            let low : o.end ≤ i = after_opening s o d t y (omega arith) in
            let high : i < d.start = before_closing s o d t y (omega arith) in (
              s,
              subst (IsSort s) e (sort_number T js q s o d t),
              subst (λ (z : List ℕ). Within T js rows q i (span_of z).text) e (omega arith, omega arith),
            )

  -- n bytes of text
  bytes : (n a : ℕ) → ((i : ℕ) → a ≤ i → i < a + n → TextAt T js rows q i × (i < length q.bytes) × (escapes (drop i q.bytes) ≡ false)) → Some a (a + n)
  bytes zero a f = ([], subst (λ (b : ℕ). RangeIs T js rows q a b []) (sym (add-zero a)) by_rows.nothing)
  bytes (suc n) a f =
      let (t, l, e) = f a (omega arith) (omega arith) in
      let (v, r) = bytes n (a + 1) (λ i lo hi. f i (omega arith) (omega arith)) in
      let z : a + 1 + n ≡ a + suc n = omega arith in
      (escaped (get_or q.bytes a 0) ++ v, subst (λ (b : ℕ). RangeIs T js rows q a b (escaped (get_or q.bytes a 0) ++ v)) z (by_rows.beside (by_rows.byte t l e) r))

  -- ---- a piece by itself
  piece_range : (k : ℕ) {x : Piece} → At m.pieces k x → role x.kind ≢ trailing → ((s : Sort) (d : Piece) (t : Tail) → TakenOf m s x d t → ⊥) → ((s : Sort) (o : Piece) (t : Tail) → TakenOf m s o x t → ⊥)
      → x.start < length q.bytes → x.end ≤ length q.bytes → Starts q.bytes x → Some x.start x.end
  piece_range k {x} a n o d l u (an_escape {a = i} e) =
      (_, by_rows.escape (text_at k x a n (λ z. let y : ◌≡◌ {A = ℕ} 0 1 = cc in absurd (omega arith)) o d i (omega arith) (omega arith) l) e)
  piece_range k {x} a n o d l u (a_code_span r f) =
      let row = row_in T js q (code_span x) in
      (_, by_rows.a_code_span {tags = tagged rows row} {row = row} (h.each (code_span x) (record { index = k; at = a; kind_is_code = refl })) refl refl (tags_some T js q m c w rows h x.start l row refl) ((code_span_iff _ _ _).1 refl))
  piece_range k {x} a n o d l u (backticks {a = i} {n = j} r f) =
      bytes j i (λ y lo hi.
      (text_at k x a n (λ z. let y : ◌≡◌ {A = ℕ} 0 1 = cc in absurd (omega arith)) o d y lo hi (omega arith), omega arith, tick_no_escape T js q m c w rows h i j y r lo hi))
  piece_range k {x} a n o d l u (opens {a = i} e) =
      (_, by_rows.byte (text_at k x a n (λ z. let y : ◌≡◌ {A = ℕ} 0 1 = cc in absurd (omega arith)) o d i (omega arith) (omega arith) l) l (no_escape q.bytes i 91 e refl))
  piece_range k {x} a n o d l u (image_opening {a = i} e) =
      let (y, z) = image_bytes q.bytes i e in
      let text : (j : ℕ) → i ≤ j → j < i + 2 → TextAt T js rows q j = λ j lo hi. text_at k x a n (λ z. let y : ◌≡◌ {A = ℕ} 0 1 = cc in absurd (omega arith)) o d j lo hi (omega arith) in
      let two : i + 1 + 1 ≡ i + 2 = omega arith in (
        escaped (get_or q.bytes i 0) ++ escaped (get_or q.bytes (i + 1) 0),
        subst (λ (b : ℕ). RangeIs T js rows q i b (escaped (get_or q.bytes i 0) ++ escaped (get_or q.bytes (i + 1) 0))) two
            (by_rows.beside (by_rows.byte (text i (omega arith) (omega arith)) l (no_escape q.bytes i 33 y refl))
            (by_rows.byte (text (i + 1) (omega arith) (omega arith)) (omega arith) (no_escape q.bytes (i + 1) 91 z refl))),
      )
  piece_range k {x} a n o d l u (closes {a = i} e) =
      (_, by_rows.byte (text_at k x a n (λ z. let y : ◌≡◌ {A = ℕ} 0 1 = cc in absurd (omega arith)) o d i (omega arith) (omega arith) l) l (no_escape q.bytes i 93 e refl))
  piece_range k {x} a n o d l u (other {a = i} b e y f) =
      (_, by_rows.byte (text_at k x a n (λ z. let y : ◌≡◌ {A = ℕ} 0 1 = cc in absurd (omega arith)) o d i (omega arith) (omega arith) l) l e)

  -- ---- a link or an image, and what stands between its brackets
  pair_range : (s : Sort) (k j : ℕ) (x d : Piece) (t : Tail) → chosen s m k j ≡ some t → At m.pieces k x → At m.pieces j d → Some x.end d.start → Some x.start (d.end + length_of t)
  pair_range s k j x d t e a b (v, r) =
      let l : TakenOf m s x d t = record { from = k; to = j; taken = e; open_at = a; close_at = b } in
      let row = row_in T js q (pair_span s x d t) in
      let inside = stands_inside T js q m c k x a (λ z. opening≢trailing (sym (opening_role T js q m c s x d t l) ∙ z)) in (
        _,
        by_rows.pair s (tagged rows row) {row = row} (h.each (pair_span s x d t) l) (sort_number T js q s x d t) refl refl (tags_some T js q m c w rows h x.start inside row refl)
            ((open_tag_iff T js q m s x d t _).1 refl) ((close_tag_iff T js q m s x d t _).1 refl) r,
      )

  -- what a piece is to links and images
  data Part (k : ℕ) (x : Piece) : Type 0 where
    alone : ((s : Sort) (d : Piece) (t : Tail) → TakenOf m s x d t → ⊥) → ((s : Sort) (o : Piece) (t : Tail) → TakenOf m s o x t → ⊥) → Part k x
    opens_one : (s : Sort) (j : ℕ) (d : Piece) (t : Tail) → chosen s m k j ≡ some t → At m.pieces j d → Part k x
    closes_one : (s : Sort) (i : ℕ) (t : Tail) → chosen s m i k ≡ some t → Part k x

  module _ (k : ℕ) (x : Piece) (a : At m.pieces k x) (n : role x.kind ≢ trailing) where
    some_bytes : x.start < x.end
    some_bytes = grows T js q m c k x a n

    inside_p : x.start < length q.bytes
    inside_p = stands_inside T js q m c k x a n

    -- the row that starts there is a code span's, or one that x opens
    opened_part : (r : List ℕ) → first_row (starts (q.at + x.start)) rows ≡ some r → StartsHere T js q m c rows h k x a x.start (omega arith) some_bytes inside_p r → Part k x
    opened_part r e (as_code i d row) =
        alone (λ s y t l. nothing≢opening (ap role (sym d) ∙ opening_role T js q m c s x y t l)) (λ s o t l. nothing≢closing (ap role (sym d) ∙ closing_role T js q m c s o x t l))
    opened_part r e (as_opening i s d t l row) =
        let f : l.from ≡ k = same_index T js q m c l.from x k x l.open_at a n (omega arith) some_bytes in
        opens_one s l.to d t (ap (λ (y : ℕ). chosen s m y l.to) (sym f) ∙ l.taken) l.close_at

    part : Part k x
    part =
        by_found (first_row (starts (q.at + x.start)) rows) (λ r e. opened_part r e (start_at T js q m c rows h k x a x.start (omega arith) some_bytes inside_p r e))
        (λ e.
        by_found (first_row (reading.closes (q.at + x.start)) rows)
        (λ r z.
        let o = close_at T js q m c rows h k x a x.start (omega arith) some_bytes inside_p r z in
        let f : o.taken.to ≡ k = same_index T js q m c o.taken.to x k x o.taken.close_at a n (omega arith) some_bytes in
        closes_one o.sort o.taken.from o.with_tail (ap (chosen o.sort m o.taken.from) (sym f) ∙ o.taken.taken))
        (λ z. alone (λ s d t y. open_found T js q m c rows h s x d t y e) (λ s o t y. close_found T js q m c rows h s o x t y z)))

  -- ---- pieces that cut neither a link nor an image: from piece k on, and before piece j
  record Uncut (k j : ℕ) : Type 0 where
    first : (s : Sort) (f t : ℕ) (u : Tail) → chosen s m f t ≡ some u → k ≡ suc t → ⊥
    opened : (s : Sort) (f t : ℕ) (u : Tail) → chosen s m f t ≡ some u → k ≤ f → f < j → suc t < j
    closed : (s : Sort) (f t : ℕ) (u : Tail) → chosen s m f t ≡ some u → k ≤ t → t < j → k ≤ f

  tail_after : (s : Sort) (k j : ℕ) (t : Tail) (l : chosen s m k j ≡ some t) → At m.pieces (suc j) (tail_piece (taken_pair c s k j t l).closed.piece (length_of t))
  tail_after s k j t l = c.tails s k j t (taken_pair c s k j t l).closed.piece l (taken_pair c s k j t l).closed.at

  -- the one that opens at k closes at j: what the others are to it
  module _ (s : Sort) (k j : ℕ) (t : Tail) (l : chosen s m k j ≡ some t) where
    pair : Paired m.pieces k j
    pair = taken_pair c s k j t l

    pairs : m.pairs k j ≡ true
    pairs = ((taken_are c s k j t).0 l).paired

    module _ (z : Sort) (f g : ℕ) (u : Tail) (e : chosen z m f g ≡ some u) where
      other_pair : Paired m.pieces f g
      other_pair = taken_pair c z f g u e

      other_pairs : m.pairs f g ≡ true
      other_pairs = ((taken_are c z f g u).0 e).paired

      one_opening : f ≡ k → g ≡ j
      one_opening y = (every_bracket_in_one_pair_at_most q.bytes (labels_of T js) m c).for_opening k g j (ap (λ (i : ℕ). m.pairs i g) (sym y) ∙ other_pairs) pairs

      later : k < f → (j < f) ⊎ (g < j)
      later y = pairs_nest q.bytes (labels_of T js) m c k j f g pairs other_pairs y

      earlier : f < k → (g < k) ⊎ (j < g)
      earlier y = pairs_nest q.bytes (labels_of T js) m c f g k j other_pairs pairs y

      -- its opening piece closes nothing, its closing piece is no tail, and its tail neither opens nor closes
      not_closed_at : g ≡ k → ⊥
      not_closed_at y =
          let x = other_pair.closed in
          let o = pair.opened in
          let same : x.piece ≡ o.piece = some-injective x.piece o.piece (sym x.at ∙ ap (get_elem? m.pieces) y ∙ o.at) in
          opening≢closing (sym o.as_role ∙ ap (λ (p : Piece). role p.kind) (sym same) ∙ x.as_role)

      not_tail_there : suc g ≡ j → ⊥
      unfolding pair other_pair
      not_tail_there y =
          let x = pair.closed in
          let same : tail_piece other_pair.closed.piece (length_of u) ≡ x.piece = some-injective _ x.piece (sym (tail_after z f g u e) ∙ ap (get_elem? m.pieces) y ∙ x.at) in
          trailing≢closing (ap (λ (p : Piece). role p.kind) same ∙ x.as_role)

      not_opened_by_tail : f ≡ suc j → ⊥
      unfolding pair other_pair
      not_opened_by_tail y =
          let x = other_pair.opened in
          let same : tail_piece pair.closed.piece (length_of t) ≡ x.piece = some-injective _ x.piece (sym (tail_after s k j t l) ∙ ap (get_elem? m.pieces) (sym y) ∙ x.at) in
          trailing≢opening (ap (λ (p : Piece). role p.kind) same ∙ x.as_role)

      not_closed_by_tail : g ≡ suc j → ⊥
      unfolding pair other_pair
      not_closed_by_tail y =
          let x = other_pair.closed in
          let same : tail_piece pair.closed.piece (length_of t) ≡ x.piece = some-injective _ x.piece (sym (tail_after s k j t l) ∙ ap (get_elem? m.pieces) (sym y) ∙ x.at) in
          trailing≢closing (ap (λ (p : Piece). role p.kind) same ∙ x.as_role)

      inside_opened : suc k ≤ f → f < j → suc g < j
      inside_opened lo hi = cases (later lo) (dec_lt (suc g) j)
        where
          cases : (j < f) ⊎ (g < j) → Dec (suc g < j) → suc g < j
          cases (inl y) d = absurd (omega arith)
          cases (inr y) (yes d) = d
          cases (inr y) (no d) = absurd (not_tail_there (omega arith))

      inside_closed : suc k ≤ g → g < j → suc k ≤ f
      inside_closed lo hi = cases (dec_lt f k) (dec_lt k f)
        where
          before_it : (g < k) ⊎ (j < g) → suc k ≤ f
          before_it (inl y) = absurd (omega arith)
          before_it (inr y) = absurd (omega arith)

          cases : Dec (f < k) → Dec (k < f) → suc k ≤ f
          cases (yes y) d = before_it (earlier y)
          cases (no y) (yes v) = omega arith
          cases (no y) (no v) = absurd (omega (arith, one_opening (omega arith)))

      after_closed : k ≤ f → suc (suc j) ≤ g → suc (suc j) ≤ f
      after_closed lo hi = cases (dec_lt k f) (dec_lt (suc j) f)
        where
          by_order : (j < f) ⊎ (g < j) → (suc j < f → ⊥) → suc (suc j) ≤ f
          by_order (inl y) n = absurd (not_opened_by_tail (omega (arith, not_less n)))
            where
              not_less : (suc j < f → ⊥) → f ≤ suc j
              not_less n = no_more (dec_lt (suc j) f)
                where
                  no_more : Dec (suc j < f) → f ≤ suc j
                  no_more (yes v) = absurd (n v)
                  no_more (no v) = omega arith
          by_order (inr y) n = absurd (omega arith)

          cases : Dec (k < f) → Dec (suc j < f) → suc (suc j) ≤ f
          cases d (yes v) = omega arith
          cases (yes y) (no v) = by_order (later y) v
          cases (no y) (no v) = absurd (omega (arith, one_opening (omega arith)))

    between : Uncut (suc k) j
    between = record {
      first = λ z f g u e y. not_closed_at z f g u e (omega arith);
      opened = λ z f g u e lo hi. inside_opened z f g u e lo hi;
      closed = λ z f g u e lo hi. inside_closed z f g u e lo hi;
    }

    after : (i : ℕ) → Uncut k i → Uncut (suc (suc j)) i
    after i a = record {
      first = λ z f g u e y. not_closed_by_tail z f g u e (omega arith);
      opened = λ z f g u e lo hi. a.opened z f g u e (omega (arith, pair.before)) hi;
      closed = λ z f g u e lo hi. after_closed z f g u e (a.closed z f g u e (omega (arith, pair.before)) hi) lo;
    }

  -- piece k is no bracket of a link or an image
  past_one : (k j : ℕ) (x : Piece) → At m.pieces k x → ((s : Sort) (d : Piece) (t : Tail) → TakenOf m s x d t → ⊥) → ((s : Sort) (o : Piece) (t : Tail) → TakenOf m s o x t → ⊥)
      → Uncut k j → Uncut (suc k) j
  past_one k j x a o d u = record {
    first = λ s f g t e z. no_closing s f g t e (omega arith);
    opened = λ s f g t e lo hi. u.opened s f g t e (omega arith) hi;
    closed = λ s f g t e lo hi. later s f g t e (u.closed s f g t e (omega arith) hi);
  }
    where
      no_closing : (s : Sort) (f g : ℕ) (t : Tail) → chosen s m f g ≡ some t → g ≡ k → ⊥
      no_closing s f g t e z =
          let p = taken_pair c s f g t e in
          d s p.opened.piece t (record { from = f; to = g; taken = e; open_at = p.opened.at; close_at = ap (get_elem? m.pieces) z ∙ a })

      no_opening : (s : Sort) (f g : ℕ) (t : Tail) → chosen s m f g ≡ some t → f ≡ k → ⊥
      no_opening s f g t e z =
          let p = taken_pair c s f g t e in
          o s p.closed.piece t (record { from = f; to = g; taken = e; open_at = ap (get_elem? m.pieces) z ∙ a; close_at = p.closed.at })

      later : (s : Sort) (f g : ℕ) (t : Tail) → chosen s m f g ≡ some t → k ≤ f → suc k ≤ f
      later s f g t e lo = cases (dec_lt k f)
        where
          cases : Dec (k < f) → suc k ≤ f
          cases (yes z) = omega arith
          cases (no z) = absurd (no_opening s f g t e (omega arith))

  -- ---- so many pieces
  -- where piece k starts, or the last ends
  abbrev place : ℕ → ℕ
  place k = reach 0 (take k m.pieces)

  starts_at : (k : ℕ) (x : Piece) → At m.pieces k x → x.start ≡ place k
  starts_at k x a = tiles_start 0 (length q.bytes) m.pieces k x c.tiled a

  ends_at : (k : ℕ) (x : Piece) → At m.pieces k x → place (suc k) ≡ x.end
  ends_at k x a = reach_next 0 m.pieces k x a

  abbrev Ranges : ℕ → Type 0
  Ranges n = (k j : ℕ) → k ≤ j → j ≤ k + n → j ≤ length m.pieces → Uncut k j → Some (place k) (place j)

  module _ (n : ℕ) (ih : Ranges n) (k j : ℕ) (lo : k < j) (hi : j ≤ k + suc n) (top : j ≤ length m.pieces) (u : Uncut k j) (x : Piece) (a : At m.pieces k x) where
    no_tail : role x.kind ≢ trailing
    no_tail z = let f : FollowsTaken m k = c.no_other_tails k x a z in u.first f.sort f.from f.to f.with_tail f.taken f.next

    by_part : Part k x → Some (place k) (place j)
    by_part (alone o d) =
        let one = piece_range k a no_tail o d (stands_inside T js q m c k x a no_tail) (ends_inside T js q m c k x a no_tail) (c.kinds k x a no_tail) in
        let others = ih (suc k) j (omega arith) (omega arith) top (past_one k j x a o d u) in
        rw (← starts_at k x a) (both one (rw (ends_at k x a) at others))
    by_part (opens_one s i d t e b) =
        let p = pair s k i t e in
        let far = u.opened s k i t e (omega arith) lo in
        let inner = ih (suc k) i (omega (arith, p.before)) (omega arith) (omega arith) (between s k i t e) in
        let outer = ih (suc (suc i)) j (omega arith) (omega (arith, p.before)) top (after s k i t e j u) in
        let tail_end : place (suc (suc i)) ≡ d.end + length_of t = ends_at (suc i) (tail_piece d (length_of t)) (c.tails s k i t d e b) in
        let one = pair_range s k i x d t e a b (rw (ends_at k x a, ← starts_at i d b) at inner) in
        rw (← starts_at k x a) (both one (rw tail_end at outer))
    by_part (closes_one s i t e) = absurd (omega (arith, u.closed s i k t e (omega arith) lo, (taken_pair c s i k t e).before))

  no_pieces : (k j : ℕ) → k ≡ j → Some (place k) (place j)
  no_pieces k j e = ([], subst (λ (i : ℕ). RangeIs T js rows q (place k) (place i) []) e by_rows.nothing)

  ranges : (n : ℕ) → Ranges n
  ranges zero k j lo hi top u = no_pieces k j (omega arith)
  ranges (suc n) k j lo hi top u = some_or_none (ranges n) (dec_lt k j)
    where
      some_or_none : Ranges n → Dec (k < j) → Some (place k) (place j)
      some_or_none ih (no z) = no_pieces k j (omega arith)
      some_or_none ih (yes z) =
          let x : Piece = get_or m.pieces k (record { kind = plain; start = 0; end = 0 }) in
          let a : At m.pieces k x = at_get_d m.pieces k (record { kind = plain; start = 0; end = 0 }) (omega arith) in
          by_part n ih k j z hi top u x a (part k x a (no_tail n ih k j z hi top u x a))

  uncut : Uncut 0 (length m.pieces)
  uncut = record {
    first = λ s f g t e z. omega arith;
    opened = λ s f g t e lo hi. at_inside m.pieces (suc g) _ (tail_after s f g t e);
    closed = λ s f g t e lo hi. omega arith;
  }

  -- the law gives something for the whole paragraph
  pub range_some : (v : List ℕ) × RangeIs T js rows q 0 (length q.bytes) v
  range_some =
      let n = length m.pieces in
      let all : place n ≡ length q.bytes = ap (reach 0) (take_all n m.pieces (omega arith)) ∙ reach_all 0 (length q.bytes) m.pieces c.tiled in
      rw all at (ranges n 0 n (omega arith) (omega arith) (omega arith) uncut)
