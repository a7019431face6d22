-- The reading goes over a paragraph piece by piece, and writes for each what the rows call for.
use Prim.Native.Nat.{ℕ, ◌+◌, ◌-◌, ◌≤◌, ◌<◌}
use native.Mathlib.Nat.{add-zero}
use native.Mathlib.Omega.{arith}
use mathlib.Core.Path.{◌≡◌, refl, sym, ap, ◌∙◌}
use mathlib.Core.Logic.{◌≢◌}
use mathlib.Core.Option.{none, some}
use mathlib.Core.List.{List, [], ◌∷◌, ◌++◌}
use mathlib.Core.Bool.{true, false}
use borrow.Author.Tests.{eqb-true}
use lib.ListN.{length, get_or, drop}
use lib.Seq.{get_or-drop}
use lib.Dec.{eqb}
use Rattle.scan.specs.Byte.{escapes}
use Rattle.scan.proofs.Test.{and_left, and_right}
use Rattle.marking.specs.Marking.{Sort, link, image, Kind, code, plain, nothing, opening, closing, trailing, role, Piece, Marking, At}
use Rattle.marking.specs.Marking as kinds
use Rattle.marking.specs.Spans.{code_span, pair_span, CodeOf, TakenOf}
use Rattle.marking.proofs.Roles.{nothing≢opening, nothing≢closing, opening≢closing, closing≢opening}
use Rattle.texts.specs.Texts.{Texts}
use Rattle.block.specs.Block.{Placed}
use Rattle.row.specs.Row.{Listed}
use Rattle.row.specs.First.{bytes_of, labels_of}
use Rattle.definition.proofs.NotePlaces.{Inside}
use Rattle.inline.specs.Pieces.{image_opens, Starts, an_escape, a_code_span, backticks, opening as opens, image_opening, closing as closes, other, Backticks}
use Rattle.inline.specs.Tails.{Tail, length_of}
use Rattle.inline.specs.Rows.{row_end}
use Rattle.inline.specs.ReadingRows.{text_of}
use Rattle.inline.proofs.Ticks.{ticks_in}
use Rattle.inline.proofs.SpanBounds.{SpanWithin, span_within}
use Rattle.note.specs.Note.{MarkingOf}
use Rattle.note.proofs.Placing.{part_bytes}
use Rattle.escaping.specs.Escaping.{escaped}
use Rattle.code.specs.Reading.{code_element}
use Rattle.page.specs.Page.{tag_if}
use Rattle.page.specs.Reading.{row_start, text_start, text_end, text, open_tag, Written, first_row, starts, tagged, started, from, Bare}
use Rattle.page.specs.Reading as reading
use Rattle.page.proofs.Found.{none_if, by_found}
use Rattle.page.proofs.Turns.{turn_escape, turn_byte, turn_bytes, turn_start, turn_close}
use Rattle.page.proofs.Pieces.{row_in, RowsHere, StartsHere, as_code, as_opening, pair_is_no_code, grows, stands_inside, ends_inside, opening_role, closing_role, start_at, close_at, code_found, close_found}
use Rattle.page.proofs.Texts.{piece_text}

-- a byte that is no backslash starts no escape
pub no_escape : (p : List ℕ) (a b : ℕ) → get_or p a 0 ≡ b → eqb b 92 ≡ false → escapes (drop a p) ≡ false
no_escape p a b e h = rw (get_or-drop a p 0 0, add-zero a, e, h)

-- `!` and `[`, where `![` stands
pub image_bytes : (p : List ℕ) (a : ℕ) → image_opens (drop a p) ≡ true → (get_or p a 0 ≡ 33) × (get_or p (a + 1) 0 ≡ 91)
image_bytes p a e =
    let f = and_left (eqb (get_or (drop a p) 0 0) 33) (eqb (get_or (drop a p) 1 0) 91) e in
    let g = and_right (eqb (get_or (drop a p) 0 0) 33) (eqb (get_or (drop a p) 1 0) 91) e in
    let z : a + 0 ≡ a = add-zero a in
    (ap (λ (i : ℕ). get_or p i 0) (sym z) ∙ sym (get_or-drop a p 0 0) ∙ eqb-true _ 33 f, sym (get_or-drop a p 1 0) ∙ eqb-true _ 91 g)

escaped_mark : escaped 33 ≡ 33 ∷ []
unfolding escaped
escaped_mark = refl

escaped_open : escaped 91 ≡ 91 ∷ []
unfolding escaped
escaped_open = refl

escaped_close : escaped 93 ≡ 93 ∷ []
unfolding escaped
escaped_close = refl

module _ (T : Texts) (js : List Listed) (q : Placed) (m : Marking Tail) (c : MarkingOf T js q m) (w : Inside T.note q) (rows : List (List ℕ)) (h : RowsHere T js q m rows) where
  -- the page of the paragraph from its place a on
  abbrev pub on_from : ℕ → List ℕ
  on_from a = from T js rows q.bytes q.at a

  -- ---- what does not stand at a place within a piece
  module _ (k : ℕ) (x : Piece) (a : At m.pieces k x) (i : ℕ) (lo : x.start ≤ i) (hi : i < x.end) (in_p : i < length q.bytes) where
    no_start : x.kind ≢ code → role x.kind ≢ opening → first_row (starts (q.at + i)) rows ≡ none
    no_start n o = none_if _ (λ r e. cases r (start_at T js q m c rows h k x a i lo hi in_p r e))
      where
        cases : (r : List ℕ) → StartsHere T js q m c rows h k x a i lo hi in_p r → ⊥
        cases r (as_code p d row) = n d
        cases r (as_opening p s d t l row) = o (opening_role T js q m c s x d t l)

    -- past its first byte
    no_later_start : x.start < i → first_row (starts (q.at + i)) rows ≡ none
    no_later_start z = none_if _ (λ r e. cases r (start_at T js q m c rows h k x a i lo hi in_p r e))
      where
        cases : (r : List ℕ) → StartsHere T js q m c rows h k x a i lo hi in_p r → ⊥
        cases r (as_code p d row) = omega arith
        cases r (as_opening p s d t l row) = omega arith

    no_close : role x.kind ≢ closing → first_row (reading.closes (q.at + i)) rows ≡ none
    no_close n = none_if _ (λ r e. let o = close_at T js q m c rows h k x a i lo hi in_p r e in n (closing_role T js q m c o.sort o.opener x o.with_tail o.taken))

    bare : x.kind ≢ code → role x.kind ≡ nothing → Bare T js rows q.bytes q.at i
    bare n e = record { no_start = no_start n (λ z. nothing≢opening (sym e ∙ z)); no_close = no_close (λ z. nothing≢closing (sym e ∙ z)) }

  -- after the piece x the reading goes on at its end, or, after the closing piece of a link or an image, at the end of the tail
  pub data Stepped (x : Piece) : Type 0 where
    on : ((s : Sort) (o : Piece) (t : Tail) → TakenOf m s o x t → ⊥) → on_from x.start ≡ piece_text T js rows q x ++ on_from x.end → Stepped x
    past : (s : Sort) (o : Piece) (t : Tail) → TakenOf m s o x t → on_from x.start ≡ piece_text T js rows q x ++ on_from (x.end + length_of t) → Stepped x

  quiet : (x : Piece) → role x.kind ≢ closing → (s : Sort) (o : Piece) (t : Tail) → TakenOf m s o x t → ⊥
  quiet x n s o t l = n (closing_role T js q m c s o x t l)

  pub code_bytes : (x : Piece) → CodeOf m x → (r : List ℕ) → row_in T js q (code_span x) ≡ r → bytes_of T.note (text r) ≡ bytes_of q.bytes (text_of q.bytes (code_span x))
  code_bytes x o r e =
      let t = text_of q.bytes (code_span x) in
      let b : SpanWithin q.bytes (code_span x) = span_within q.bytes (labels_of T js) m c (code_span x) o in
      rw (← e)
      (part_bytes T.note q w t.start (t.end - t.start) (omega (arith, b.text_ordered, b.text_to, b.to)) (q.at + t.start) (q.at + t.end) refl
      (omega (arith, b.text_ordered)))

  step_text : (k : ℕ) (x : Piece) → At m.pieces k x → x.kind ≡ plain → x.start ≤ x.end → x.end ≤ length q.bytes
      → ((i : ℕ) → x.start ≤ i → i < x.end → escapes (drop i q.bytes) ≡ false) → Stepped x
  step_text k x a e o l f =
      let n : x.kind ≢ code = λ z. let no : ◌≡◌ {A = Kind} plain code = sym e ∙ z in let y : ◌≡◌ {A = ℕ} 0 1 = cc in absurd (omega arith) in
      let j : x.start + (x.end - x.start) ≡ x.end = omega arith in
      let role_is : role x.kind ≡ nothing = ap role e in
      on (quiet x (λ z. nothing≢closing (sym role_is ∙ z)))
      (turn_bytes T js rows q.bytes q.at (x.end - x.start) x.start (omega arith)
      (λ i lo hi. (bare k x a i lo (omega arith) (omega arith) n role_is, f i lo (omega arith)))
      ∙ rw (e, j) refl)

  step_code : (k : ℕ) (x : Piece) → At m.pieces k x → x.kind ≡ code → x.start < x.end → x.start < length q.bytes → Stepped x
  step_code k x a e g l =
      by_found (first_row (starts (q.at + x.start)) rows) (λ r f. cases r f (start_at T js q m c rows h k x a x.start (omega arith) g l r f)) (λ f. absurd (code_found T js q m c rows h x of f))
    where
      of : CodeOf m x
      of = record { index = k; at = a; kind_is_code = e }

      cases : (r : List ℕ) → first_row (starts (q.at + x.start)) rows ≡ some r → StartsHere T js q m c rows h k x a x.start (omega arith) g l r → Stepped x
      cases r f (as_opening p s d t y row) = absurd (nothing≢opening (ap role (sym e) ∙ opening_role T js q m c s x d t y))
      cases r f (as_code p d row) =
          let row_is : tagged rows (row_in T js q (code_span x)) ≡ tagged rows r = ap (tagged rows) row in
          let w : Written = record { size = x.end - x.start; bytes = code_element (tagged rows r) (bytes_of T.note (text r)) } in
          let size : row_end r - row_start r ≡ x.end - x.start = rw (← row) (omega arith) in
          let code_row : reading.is_code r ≡ true = ap reading.is_code (sym row) in
          let v : started T js (tagged rows r) r ≡ w = rw (code_row, size) refl in
          on (quiet x (λ z. nothing≢closing (ap role (sym e) ∙ z)))
          (turn_start T js rows q.bytes q.at x.start x.end r l f v g refl
          ∙ rw (e, row_is, code_bytes x of r row) refl)

  -- ---- an opening piece of the sort s
  module _ (s : Sort) (k i n : ℕ) where
    abbrev piece : Piece
    piece = record { kind = kinds.opens s; start = i; end = i + n }

    open_row : At m.pieces k piece → i < length q.bytes → 0 < n → (r : List ℕ) → first_row (starts (q.at + i)) rows ≡ some r → on_from i ≡ piece_text T js rows q piece ++ on_from (i + n)
    open_row a l z r f = cases (start_at T js q m c rows h k piece a i (omega arith) (omega arith) l r f)
      where
        cases : StartsHere T js q m c rows h k piece a i (omega arith) (omega arith) l r → on_from i ≡ piece_text T js rows q piece ++ on_from (i + n)
        cases (as_code p d row) = let y : ◌≡◌ {A = ℕ} 0 1 = cc in absurd (omega arith)
        cases (as_opening p x d t y row) =
            let v : Written = record { size = n; bytes = tag_if (tagged rows r) (open_tag T js r) } in
            let size : text_start r - row_start r ≡ n = rw (← row) (omega arith) in
            let no_code : reading.is_code r ≡ false = ap reading.is_code (sym row) ∙ pair_is_no_code T js q x piece d t in
            let u : started T js (tagged rows r) r ≡ v = rw (no_code, size) refl in
            turn_start T js rows q.bytes q.at i (i + n) r l f u (omega arith) (omega arith) ∙ rw f refl

  step_open : (k i : ℕ) → At m.pieces k (piece link k i 1) → get_or q.bytes i 0 ≡ 91 → i < length q.bytes → Stepped (piece link k i 1)
  step_open k i a e l =
      on (quiet (piece link k i 1) opening≢closing)
      (by_found (first_row (starts (q.at + i)) rows) (λ r f. open_row link k i 1 a l (omega arith) r f)
      (λ f.
      let b : Bare T js rows q.bytes q.at i = record { no_start = f; no_close = no_close k (piece link k i 1) a i (omega arith) (omega arith) l opening≢closing } in
      turn_byte T js rows q.bytes q.at i l b (no_escape q.bytes i 91 e refl) ∙ rw (f, e, escaped_open) refl))

  step_image : (k i : ℕ) → At m.pieces k (piece image k i 2) → image_opens (drop i q.bytes) ≡ true → i + 2 ≤ length q.bytes → Stepped (piece image k i 2)
  step_image k i a e l =
      on (quiet x opening≢closing)
      (by_found (first_row (starts (q.at + i)) rows) (λ r f. open_row image k i 2 a (omega arith) (omega arith) r f)
      (λ f.
      let (u, v) = image_bytes q.bytes i e in
      let b : Bare T js rows q.bytes q.at i = record { no_start = f; no_close = no_close k x a i (omega arith) (omega arith) (omega arith) opening≢closing } in
      let b' : Bare T js rows q.bytes q.at (i + 1)
      = record {
        no_start = no_later_start k x a (i + 1) (omega arith) (omega arith) (omega arith) (omega arith);
        no_close = no_close k x a (i + 1) (omega arith) (omega arith) (omega arith) opening≢closing;
      } in
      let z : i + 1 + 1 ≡ i + 2 = omega arith in
      turn_byte T js rows q.bytes q.at i (omega arith) b (no_escape q.bytes i 33 u refl)
      ∙ ap (λ (y : List ℕ). escaped (get_or q.bytes i 0) ++ y) (turn_byte T js rows q.bytes q.at (i + 1) (omega arith) b' (no_escape q.bytes (i + 1) 91 v refl))
      ∙ rw (f, u, v, escaped_mark, escaped_open, z) refl))
    where
      x : Piece
      x = piece image k i 2

  closing_size : (s : Sort) (i : ℕ) (o : Piece) (t : Tail) (r : List ℕ) → row_in T js q (pair_span s o (record { kind = kinds.closes; start = i; end = i + 1 }) t) ≡ r
      → row_end r - text_end r ≡ i + 1 + length_of t - i
  closing_size s i o t r e = rw (← e) (omega arith)

  step_close : (k i : ℕ) → At m.pieces k (record { kind = kinds.closes; start = i; end = i + 1 }) → get_or q.bytes i 0 ≡ 93 → i < length q.bytes
      → Stepped (record { kind = kinds.closes; start = i; end = i + 1 })
  step_close k i a e l =
      let x : Piece = record { kind = kinds.closes; start = i; end = i + 1 } in
      let none_starts = no_start k x a i (omega arith) (omega arith) l (λ z. let y : ◌≡◌ {A = ℕ} 0 1 = cc in absurd (omega arith)) closing≢opening in
      by_found (first_row (reading.closes (q.at + i)) rows)
      (λ r f.
      let o = close_at T js q m c rows h k x a i (omega arith) (omega arith) l r f in
      let size = closing_size o.sort i o.opener o.with_tail r o.row_is in
      past o.sort o.opener o.with_tail o.taken
      (turn_close T js rows q.bytes q.at i (i + 1 + length_of o.with_tail) r l none_starts f (omega arith) size ∙ rw f refl))
      (λ f.
      let b : Bare T js rows q.bytes q.at i = record { no_start = none_starts; no_close = f } in
      on (λ s o t z. absurd (close_found T js q m c rows h s o x t z f))
      (turn_byte T js rows q.bytes q.at i l b (no_escape q.bytes i 93 e refl) ∙ rw (f, e, escaped_close) refl))

  step_escape : (k i : ℕ) → At m.pieces k (record { kind = kinds.escape; start = i; end = i + 2 }) → escapes (drop i q.bytes) ≡ true → i < length q.bytes
      → Stepped (record { kind = kinds.escape; start = i; end = i + 2 })
  step_escape k i a e l =
      let x : Piece = record { kind = kinds.escape; start = i; end = i + 2 } in
      on (quiet x nothing≢closing)
      (turn_escape T js rows q.bytes q.at i l (bare k x a i (omega arith) (omega arith) l (λ z. let y : ◌≡◌ {A = ℕ} 0 1 = cc in absurd (omega arith)) refl) e)

  pub tick_no_escape : (i n j : ℕ) → Backticks q.bytes i n → i ≤ j → j < i + n → escapes (drop j q.bytes) ≡ false
  tick_no_escape i n j r lo hi =
      let z : i + (j - i) ≡ j = omega arith in
      no_escape q.bytes j 96 (eqb-true (get_or q.bytes j 0) 96 (rw z at (ticks_in q.bytes i n r (j - i) (omega arith)))) refl

  one_place : (i : ℕ) → escapes (drop i q.bytes) ≡ false → (j : ℕ) → i ≤ j → j < i + 1 → escapes (drop j q.bytes) ≡ false
  one_place i e j lo hi = let z : i ≡ j = omega arith in rw z at e

  step_by : (k : ℕ) {x : Piece} → At m.pieces k x → x.start < x.end → x.start < length q.bytes → x.end ≤ length q.bytes → Starts q.bytes x → Stepped x
  step_by k a g l e (an_escape {a = i} b) = step_escape k i a b l
  step_by k {x} a g l e (a_code_span r f) = step_code k x a refl g l
  step_by k {x} a g l e (backticks {a = i} {n = n} r f) = step_text k x a refl (omega arith) e (λ j. tick_no_escape i n j r)
  step_by k a g l e (opens {a = i} b) = step_open k i a b l
  step_by k a g l e (image_opening {a = i} b) = step_image k i a b e
  step_by k a g l e (closes {a = i} b) = step_close k i a b l
  step_by k {x} a g l e (other {a = i} b d o n) = step_text k x a refl (omega arith) e (one_place i d)

  pub step : (k : ℕ) (x : Piece) → At m.pieces k x → role x.kind ≢ trailing → Stepped x
  step k x a n = step_by k a (grows T js q m c k x a n) (stands_inside T js q m c k x a n) (ends_inside T js q m c k x a n) (c.kinds k x a n)
