-- What the law gives for a range of a paragraph is what the reading writes for it, so that it is one.
use Prim.Native.Nat.{ℕ, ◌+◌, ◌≤◌, ◌<◌}
use native.Mathlib.Omega.{arith}
use mathlib.Core.Path.{◌≡◌, refl, sym, ap, ◌∙◌, subst}
use mathlib.Core.Logic.{◌≢◌}
use mathlib.Core.List.{List, ◌++◌, append_assoc}
use mathlib.Core.Bool.{Bool, true, not}
use borrow.Author.Tests.{eqb-true, not-true}
use lib.ListN.{length}
use Rattle.scan.proofs.Test.{and_left, and_right}
use Rattle.marking.specs.Marking.{Sort, image, opening, closing, trailing, role, Piece, Marking, At}
use Rattle.scan.specs.Member.{In}
use Rattle.marking.specs.Spans.{pair_span, TakenOf}
use Rattle.marking.proofs.Roles.{nothing≢closing, nothing≢trailing, opening≢closing, opening≢trailing, closing≢trailing}
use Rattle.texts.specs.Texts.{Texts}
use Rattle.block.specs.Block.{Placed}
use Rattle.row.specs.Row.{Listed}
use Rattle.row.specs.declared.Range.{Range}
use Rattle.row.specs.First.{bytes_of, labels_of}
use Rattle.definition.proofs.NotePlaces.{Inside}
use Rattle.inline.specs.Tails.{Tail, length_of}
use Rattle.inline.specs.Rows.{row_end, whole_of}
use Rattle.inline.proofs.SpanRows.{code_text_is}
use Rattle.note.specs.Note.{MarkingOf}
use Rattle.code.specs.Code.{CodeElement}
use Rattle.page.specs.Page as law
use Rattle.page.specs.Page.{OpenTag, CloseTag, tag_if}
use Rattle.page.specs.ByRows.{IsCode, IsSort, TextAt, RangeIs}
use Rattle.page.specs.ByRows as by_rows
use Rattle.page.specs.Reading.{is_code, row_start, text_start, text_end, destination, title, target_text, starts, describes, tagged, from, Bare}
use Rattle.page.specs.Reading as reading
use Rattle.page.proofs.Found.{none_if, found_in}
use Rattle.page.proofs.Turns.{turn_escape, turn_byte}
use Rattle.page.proofs.Pieces.{row_in, RowsHere, CodeRow, PairRow, code_row, pair_row, grows, opening_role, closing_role, one_closed}
use Rattle.page.proofs.Descriptions.{one_switch, describes_it, by_tags, described_by, image_row, tags_law}
use Rattle.page.proofs.Texts.{piece_text, text_only}
use Rattle.page.proofs.Steps.{code_bytes, Stepped, on, past, step}
use Rattle.page.proofs.Proper.{Proper, ordered}
use Rattle.page.proofs.Numbers.{code_kind, sort_kind, image_kind, sort_number, sort_by}

regroup : (a b c d : List ℕ) → a ++ (b ++ (c ++ d)) ≡ a ++ b ++ c ++ d
regroup a b c d = simp append_assoc

proper : {T : Texts} {js : List Listed} {q : Placed} {m : Marking Tail} {rows : List (List ℕ)} → RowsHere T js q m rows → Proper rows
proper h = record { some_bytes = h.not_empty; text_lies = h.text_ends }

module _ (T : Texts) (js : List Listed) (q : Placed) (m : Marking Tail) (c : MarkingOf T js q m) (w : Inside T.note q) (rows : List (List ℕ)) (h : RowsHere T js q m rows) where
  -- the page of the paragraph from its place a on
  abbrev rest : ℕ → List ℕ
  rest a = from T js rows q.bytes q.at a

  -- ---- text: no row stands there
  bare : (i : ℕ) → i < length q.bytes → TextAt T js rows q i → Bare T js rows q.bytes q.at i
  bare i l f = record {
    no_start = none_if _ (λ r e.
        let (j, t) = found_in (starts (q.at + i)) rows r e in
        let st : row_start r ≡ q.at + i = eqb-true (row_start r) (q.at + i) t in
        let (x, k, g) = f r j (omega arith, omega (arith, h.not_empty r j)) in
        omega (arith, (h.text_ends r j (sort_kind r x k)).0, g.0));
    no_close = none_if _ (λ r e.
        let (j, t) = found_in (reading.closes (q.at + i)) rows r e in
        let st : text_end r ≡ q.at + i = eqb-true (text_end r) (q.at + i) (and_right (not (is_code r)) _ t) in
        let (u, v, hi) = h.text_ends r j (not-true _ (and_left (not (is_code r)) _ t)) in
        let (x, k, g) = f r j (omega arith, omega arith) in
        omega (arith, g.1));
  }

  -- ---- whether tags are written, by the rows
  module _ (a : ℕ) (l : a < length q.bytes) (row : List ℕ) (st : row_start row ≡ q.at + a) where
    described : (d : List ℕ) → In d rows → describes row d ≡ true → by_rows.Described T js rows q a
    described d j e =
        let (i, lo, hi) = described_by row d e in
        let y = image_row T js q m c rows h d j i a l (omega arith) (omega arith) in
        record { row = d; is_row = j; is_an_image = subst (IsSort image) y.row_is (sort_number T js q image y.opener y.closer y.with_tail); inside = (omega arith, omega arith) }

    not_described : ((d : List ℕ) → In d rows → describes row d ≡ true → ⊥) → by_rows.Described T js rows q a → ⊥
    not_described f y = f y.row y.is_row (describes_it row y.row (image_kind y.row y.is_an_image) (omega (arith, y.inside.0)) (omega (arith, y.inside.1)))

    pub tags_some : by_rows.Tags T js rows q (tagged rows row) a
    tags_some = by_tags (λ (b : Bool). by_rows.Tags T js rows q b a) rows row described not_described

    tags_are : (b : Bool) → by_rows.Tags T js rows q b a → tagged rows row ≡ b
    tags_are b f = one_switch (by_rows.Described T js rows q a) (tagged rows row) b tags_some f

  -- by the piece with which the row starts
  piece_tags : (k : ℕ) (y : Piece) → At m.pieces k y → role y.kind ≢ trailing → (row : List ℕ) (b : Bool) → y.start < length q.bytes → row_start row ≡ q.at + y.start
      → by_rows.Tags T js rows q b y.start → law.Tags T js q m b y
  piece_tags k y a n row b l st f = subst (λ (z : Bool). law.Tags T js q m z y) (tags_are y.start l row st b f) (tags_law T js q m c rows h k y a n row st)

  -- ---- the row of a code span, and of a link or an image
  code_range : (b : Bool) (row : List ℕ) (a e : ℕ) {v : List ℕ} → In row rows → IsCode row → row_start row ≡ q.at + a → row_end row ≡ q.at + e → e ≤ length q.bytes
      → by_rows.Tags T js rows q b a → CodeElement b (bytes_of T.note (by_rows.span_of row).text) v → rest a ≡ v ++ rest e
  code_range b row a e {v} i k st en l f t =
      let here = h.covering row i a (omega (arith, h.not_empty row i)) (omega arith) (omega (arith, h.not_empty row i)) in
      by_row (code_row T js q m c row here (code_kind row k))
    where
      by_row : CodeRow T js q m c row → rest a ≡ v ++ rest e
      by_row y =
          let x = y.piece in
          let start : q.at + x.start ≡ row_start row = ap row_start y.row_is in
          let end : q.at + x.end ≡ row_end row = ap row_end y.row_is in
          let xa : x.start ≡ a = omega arith in
          let xb : x.end ≡ e = omega arith in
          let no_tail : role x.kind ≢ trailing = λ z. nothing≢trailing (ap role (sym y.code_of.kind_is_code) ∙ z) in
          let tags = piece_tags y.code_of.index x y.code_of.at no_tail row b (omega (arith, h.not_empty row i)) (sym start) (subst (by_rows.Tags T js rows q b) (sym xa) f) in
          let content : CodeElement b _ v = subst (λ (z : List ℕ). CodeElement b z v) (code_bytes T js q m c w rows h x y.code_of row y.row_is) t in
          let text : piece_text T js rows q x ≡ v
          = text_only T js q m c rows h y.code_of.index x y.code_of.at (law.a_code_span y.code_of.kind_is_code tags (code_text_is q.bytes (labels_of T js) m c x y.code_of) content) in
          by_step x xa xb text (step T js q m c w rows h y.code_of.index x y.code_of.at no_tail)
          (λ s o t l. nothing≢closing (ap role (sym y.code_of.kind_is_code) ∙ closing_role T js q m c s o x t l))
        where
          by_step : (x : Piece) → x.start ≡ a → x.end ≡ e → piece_text T js rows q x ≡ v → Stepped T js q m c w rows h x → ((s : Sort) (o : Piece) (t : Tail) → TakenOf m s o x t → ⊥)
              → rest a ≡ v ++ rest e
          by_step x xa xb text (on n g) f = ap rest (sym xa) ∙ g ∙ ap (λ (y : List ℕ). y ++ rest x.end) text ∙ ap (λ (z : ℕ). v ++ rest z) xb
          by_step x xa xb text (past s o t l g) f = absurd (f s o t l)

  module _ (x : Sort) (o d : Piece) (t : Tail) (l : TakenOf m x o d t) (b : Bool) (tags : law.Tags T js q m b o) where
    is_opening_lem : role o.kind ≡ opening
    is_opening_lem = opening_role T js q m c x o d t l

    is_closing : role d.kind ≡ closing
    is_closing = closing_role T js q m c x o d t l

    opening_range : {v : List ℕ} → OpenTag x (law.destination_of T js q m x o d t) (law.title_of T js q m x o d t) v → rest o.start ≡ tag_if b v ++ rest o.end
    opening_range {v} p = by_step (step T js q m c w rows h l.from o l.open_at (λ z. opening≢trailing (sym is_opening_lem ∙ z)))
      where
        text : piece_text T js rows q o ≡ tag_if b v
        text = text_only T js q m c rows h l.from o l.open_at (law.opening b l tags p)

        by_step : Stepped T js q m c w rows h o → rest o.start ≡ tag_if b v ++ rest o.end
        by_step (on n g) = g ∙ ap (λ (y : List ℕ). y ++ rest o.end) text
        by_step (past s z u k g) = absurd (opening≢closing (sym is_opening_lem ∙ closing_role T js q m c s z o u k))

    closing_range : {v : List ℕ} → CloseTag x (law.title_of T js q m x o d t) v → rest d.start ≡ tag_if b v ++ rest (d.end + length_of t)
    closing_range {v} p = by_step (step T js q m c w rows h l.to d l.close_at no_tail)
      where
        no_tail : role d.kind ≢ trailing
        no_tail z = closing≢trailing (sym is_closing ∙ z)

        text : piece_text T js rows q d ≡ tag_if b v
        text = text_only T js q m c rows h l.to d l.close_at (law.closing b l tags p)

        by_step : Stepped T js q m c w rows h d → rest d.start ≡ tag_if b v ++ rest (d.end + length_of t)
        by_step (on n g) = absurd (n x o t l)
        by_step (past s z u k g) =
            let same : d.end + length_of u ≡ d.end + length_of t
            = ap (λ y. (whole_of y).end) (one_closed T js q m c s x z o d u t (grows T js q m c l.to d l.close_at no_tail) k l) in
            g ∙ ap (λ (y : List ℕ). y ++ rest (d.end + length_of u)) text ∙ ap (λ (e : ℕ). tag_if b v ++ rest e) same

  pair_range : (x : Sort) (b : Bool) (row : List ℕ) (a e f g : ℕ) {o z : List ℕ} (v : List ℕ) → In row rows → IsSort x row → row_start row ≡ q.at + a → row_end row ≡ q.at + e
      → text_start row ≡ q.at + f → text_end row ≡ q.at + g → e ≤ length q.bytes → by_rows.Tags T js rows q b a
      → OpenTag x (bytes_of (target_text T js row) (destination row)) (bytes_of (target_text T js row) (title row)) o → CloseTag x (bytes_of (target_text T js row) (title row)) z
      → rest f ≡ v ++ rest g → rest a ≡ tag_if b o ++ v ++ tag_if b z ++ rest e
  pair_range x b row a e f g {o} {z} v i k st en ts te l u p p' r =
      let here = h.covering row i a (omega (arith, h.not_empty row i)) (omega arith) (omega (arith, h.not_empty row i)) in
      by_row (sort_by T js q m c x row k (pair_row T js q m c row here (sort_kind row x k)))
    where
      by_row : (y : PairRow T js q m c row) × (y.sort ≡ x) → rest a ≡ tag_if b o ++ v ++ tag_if b z ++ rest e
      by_row (y, s) =
          let n = y.opener in
          let d = y.closer in
          let t = y.with_tail in
          let taken : TakenOf m x n d t = subst (λ (s : Sort). TakenOf m s n d t) s y.taken in
          let row_is : row_in T js q (pair_span x n d t) ≡ row = ap (λ (s : Sort). row_in T js q (pair_span s n d t)) (sym s) ∙ y.row_is in
          let sx : q.at + n.start ≡ row_start row = ap row_start row_is in
          let ex : q.at + n.end ≡ text_start row = ap text_start row_is in
          let sd : q.at + d.start ≡ text_end row = ap text_end row_is in
          let ed : q.at + (d.end + length_of t) ≡ row_end row = ap row_end row_is in
          let xa : n.start ≡ a = omega arith in
          let xe : n.end ≡ f = omega arith in
          let df : d.start ≡ g = omega arith in
          let db : d.end + length_of t ≡ e = omega arith in
          let no_tail : role n.kind ≢ trailing = λ y. opening≢trailing (sym (opening_role T js q m c x n d t taken) ∙ y) in
          let tags = piece_tags taken.from n taken.open_at no_tail row b (omega (arith, h.not_empty row i)) (sym sx) (subst (by_rows.Tags T js rows q b) (sym xa) u) in
          let p₁ = subst (λ (y : List ℕ). OpenTag x (bytes_of (target_text T js y) (destination y)) (bytes_of (target_text T js y) (title y)) o) (sym row_is) p in
          let p₂ = subst (λ (y : List ℕ). CloseTag x (bytes_of (target_text T js y) (title y)) z) (sym row_is) p' in
          ap rest (sym xa)
          ∙ opening_range x n d t taken b tags p₁
          ∙ ap (λ (j : ℕ). tag_if b o ++ rest j) xe
          ∙ ap (λ (y : List ℕ). tag_if b o ++ y)
          (r ∙ ap (λ (y : List ℕ). v ++ y) (ap rest (sym df) ∙ closing_range x n d t taken b tags p₂ ∙ ap (λ (j : ℕ). tag_if b z ++ rest j) db))
          ∙ regroup (tag_if b o) v (tag_if b z) (rest e)

  -- ---- a range
  pub range_read : {a b : ℕ} {v : List ℕ} → RangeIs T js rows q a b v → b ≤ length q.bytes → rest a ≡ v ++ rest b
  range_read by_rows.nothing l = refl
  range_read (by_rows.beside {c = d} {w = v} {v = u} x y) l =
      range_read x (omega (arith, ordered T js rows (proper h) q y)) ∙ ap (λ (z : List ℕ). v ++ z) (range_read y l) ∙ sym (append_assoc v u (rest d))
  range_read (by_rows.escape {a} f e) l = turn_escape T js rows q.bytes q.at a (omega arith) (bare a (omega arith) f) e
  range_read (by_rows.byte {a} f i e) l = turn_byte T js rows q.bytes q.at a i (bare a i f) e
  range_read (by_rows.a_code_span {tags = u} {row = row} {a = a} {b = b} i k e f t) l = code_range u row a b i k (ap (λ (r : Range). r.start) e) (ap (λ (r : Range). r.end) e) l f t
  range_read (by_rows.pair x u {row = row} {a = a} {b = b} {c = e} {d = f} {w = v} i k z t g p p' r) l =
      let st = ap (λ (r : Range). r.start) z in
      let en = ap (λ (r : Range). r.end) z in
      let ts = ap (λ (r : Range). r.start) t in
      let te = ap (λ (r : Range). r.end) t in
      pair_range x u row a b e f v i k st en ts te l g p p' (range_read r (omega (arith, (h.text_ends row i (sort_kind row x k)).2, en, te)))
