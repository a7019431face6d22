-- What stands on the page for a piece, by the rows: it is what the law says, and there is one.
use Prim.Native.Nat.{ℕ, suc, ◌+◌}
use native.Mathlib.Omega.{arith}
use mathlib.Core.Path.{◌≡◌, refl, sym, ap, ◌∙◌, subst}
use mathlib.Core.Logic.{◌↔◌, ◌≢◌}
use mathlib.Core.Option.{Option, none, some}
use mathlib.Core.List.{List, [], ◌∷◌, ◌++◌, flat_map}
use mathlib.Core.Bool.{Bool}
use lib.ListN.{get_or, get_elem?}
use Rattle.marking.specs.Marking.{Sort, link, image, Kind, escape, code, plain, closes, tail, opens, trailing, role, Piece, Marking, At}
use Rattle.marking.specs.Spans.{code_span, pair_span, TakenOf}
use Rattle.marking.proofs.Roles.{nothing≢opening, nothing≢trailing, opening≢trailing, closing≢trailing}
use Rattle.texts.specs.Texts.{Texts}
use Rattle.block.specs.Block.{Placed}
use Rattle.row.specs.declared.Range.{Range}
use Rattle.row.specs.Row.{range, Listed}
use Rattle.row.specs.First.{bytes_of, labels_of}
use Rattle.inline.specs.Tails.{Tail, inline, full, collapsed, shortcut}
use Rattle.inline.specs.ReadingRows.{text_of}
use Rattle.inline.proofs.SpanRows.{code_text_read, code_text_is}
use Rattle.note.specs.Note.{MarkingOf}
use Rattle.escaping.specs.Escaping.{escaped}
use Rattle.code.specs.Reading.{code_element}
use Rattle.code.proofs.Element.{code_span_iff}
use Rattle.html.specs.Tags.{link_close}
use Rattle.html.specs.Reading.{link_open, image_open, image_close}
use Rattle.html.proofs.Tags.{link_open_iff, image_open_iff, image_close_iff}
use Rattle.page.specs.Page as law
use Rattle.page.specs.Page.{OpenTag, CloseTag, tag_if, opening_bytes, PieceIs, PiecesAre}
use Rattle.page.specs.Reading.{row_start, open_tag, close_tag, first_row, starts, tagged}
use Rattle.page.specs.Reading as reading
use Rattle.page.proofs.Found.{none_if}
use Rattle.page.proofs.Pieces.{row_in, RowsHere, StartsHere, as_code, as_opening, closes_kind, grows, stands_inside, opener_kind, opening_role, closing_role, start_at, close_at, open_found, close_found, one_opened, one_closed}
use Rattle.page.proofs.Descriptions.{tags_law, tags_only}

-- ---- the tags of a link or an image, from its row
link_iff : (d t w : List ℕ) → OpenTag link d t w ↔ (link_open d t ≡ w)
link_iff d t w = (to, (λ e. law.of_link ((link_open_iff d t w).1 e)))
  where
    to : OpenTag link d t w → link_open d t ≡ w
    to (law.of_link p) = (link_open_iff d t w).0 p

image_iff : (d t w : List ℕ) → OpenTag image d t w ↔ (image_open d ≡ w)
image_iff d t w = (to, (λ e. law.of_image ((image_open_iff d w).1 e)))
  where
    to : OpenTag image d t w → image_open d ≡ w
    to (law.of_image p) = (image_open_iff d w).0 p

link_end : {t w : List ℕ} → CloseTag link t w → link_close ≡ w
link_end law.after_link = refl

link_end_iff : (t w : List ℕ) → CloseTag link t w ↔ (link_close ≡ w)
link_end_iff t w = (link_end, (λ e. subst (CloseTag link t) e law.after_link))

image_end_iff : (t w : List ℕ) → CloseTag image t w ↔ (image_close t ≡ w)
image_end_iff t w = (to, (λ e. law.after_image ((image_close_iff t w).1 e)))
  where
    to : CloseTag image t w → image_close t ≡ w
    to (law.after_image p) = (image_close_iff t w).0 p

module _ (T : Texts) (js : List Listed) (q : Placed) (m : Marking Tail) where
  pub open_tag_iff : (x : Sort) (o c : Piece) (t : Tail) (w : List ℕ)
      → OpenTag x (law.destination_of T js q m x o c t) (law.title_of T js q m x o c t) w ↔ (open_tag T js (row_in T js q (pair_span x o c t)) ≡ w)
  open_tag_iff link o c (inline n d t) w = link_iff _ _ w
  open_tag_iff link o c (full n k) w = link_iff _ _ w
  open_tag_iff link o c (collapsed k) w = link_iff _ _ w
  open_tag_iff link o c (shortcut k) w = link_iff _ _ w
  open_tag_iff image o c (inline n d t) w = image_iff _ _ w
  open_tag_iff image o c (full n k) w = image_iff _ _ w
  open_tag_iff image o c (collapsed k) w = image_iff _ _ w
  open_tag_iff image o c (shortcut k) w = image_iff _ _ w

  pub close_tag_iff : (x : Sort) (o c : Piece) (t : Tail) (w : List ℕ) → CloseTag x (law.title_of T js q m x o c t) w ↔ (close_tag T js (row_in T js q (pair_span x o c t)) ≡ w)
  close_tag_iff link o c (inline n d t) w = link_end_iff _ w
  close_tag_iff link o c (full n k) w = link_end_iff _ w
  close_tag_iff link o c (collapsed k) w = link_end_iff _ w
  close_tag_iff link o c (shortcut k) w = link_end_iff _ w
  close_tag_iff image o c (inline n d t) w = image_end_iff _ w
  close_tag_iff image o c (full n k) w = image_end_iff _ w
  close_tag_iff image o c (collapsed k) w = image_end_iff _ w
  close_tag_iff image o c (shortcut k) w = image_end_iff _ w

module _ (T : Texts) (js : List Listed) (rows : List (List ℕ)) (q : Placed) where
  -- an opening piece by the row that is found for it, and a closing piece
  abbrev pub open_text : Sort → Option (List ℕ) → List ℕ
  open_text x (some r) = tag_if (tagged rows r) (open_tag T js r)
  open_text x none = opening_bytes x

  abbrev pub close_text : Option (List ℕ) → List ℕ
  close_text (some r) = tag_if (tagged rows r) (close_tag T js r)
  close_text none = 93 ∷ []

  abbrev pub text_by : Kind → Piece → List ℕ
  text_by escape y = escaped (get_or q.bytes (y.start + 1) 0)
  text_by plain y = flat_map escaped (bytes_of q.bytes (range y.start y.end))
  text_by code y = code_element (tagged rows (row_in T js q (code_span y))) (bytes_of q.bytes (text_of q.bytes (code_span y)))
  text_by closes y = close_text (first_row (reading.closes (q.at + y.start)) rows)
  text_by tail y = []
  text_by (opens x) y = open_text x (first_row (starts (q.at + y.start)) rows)

  abbrev pub piece_text : Piece → List ℕ
  piece_text y = text_by y.kind y

module _ (T : Texts) (js : List Listed) (q : Placed) (m : Marking Tail) (c : MarkingOf T js q m) (rows : List (List ℕ)) (h : RowsHere T js q m rows) where
  module _ (k : ℕ) (y : Piece) (a : At m.pieces k y) where
    abbrev Found : Option (List ℕ) → Type 0
    Found f = first_row (starts (q.at + y.start)) rows ≡ f

    abbrev Closed : Option (List ℕ) → Type 0
    Closed f = first_row (reading.closes (q.at + y.start)) rows ≡ f

    module _ (no_tail : role y.kind ≢ trailing) where
      there : (r : List ℕ) → Found (some r) → StartsHere T js q m c rows h k y a y.start (omega arith) (grows T js q m c k y a no_tail) (stands_inside T js q m c k y a no_tail) r
      there r g = start_at T js q m c rows h k y a y.start (omega arith) (grows T js q m c k y a no_tail) (stands_inside T js q m c k y a no_tail) r g

      -- whether tags are written for a row that starts with this piece
      written : (r : List ℕ) → row_start r ≡ q.at + y.start → law.Tags T js q m (tagged rows r) y
      written r st = tags_law T js q m c rows h k y a no_tail r st

    bracket_open : {x : Sort} → y.kind ≡ opens x → role y.kind ≢ trailing
    bracket_open e z = opening≢trailing (ap role (sym e) ∙ z)

    bracket_close : y.kind ≡ closes → role y.kind ≢ trailing
    bracket_close e z = closing≢trailing (ap role (sym e) ∙ z)

    open_law : (x : Sort) → y.kind ≡ opens x → (f : Option (List ℕ)) → Found f → PieceIs T js q m y (open_text T js rows q x f)
    open_law x e none g = law.other_opening e (λ z d t l. open_found T js q m c rows h z y d t l g)
    open_law x e (some r) g = cases (there (bracket_open e) r g)
      where
        cases : StartsHere T js q m c rows h k y a y.start (omega arith) (grows T js q m c k y a (bracket_open e)) (stands_inside T js q m c k y a (bracket_open e)) r
            → PieceIs T js q m y (tag_if (tagged rows r) (open_tag T js r))
        cases (as_code i d row) = absurd (nothing≢opening (ap role (sym d ∙ e)))
        cases (as_opening i s d t l row) =
            subst (λ (v : List ℕ). PieceIs T js q m y (tag_if (tagged rows v) (open_tag T js v))) row
            (law.opening (tagged rows (row_in T js q (pair_span s y d t))) l (written (bracket_open e) (row_in T js q (pair_span s y d t)) refl)
            ((open_tag_iff T js q m s y d t (open_tag T js (row_in T js q (pair_span s y d t)))).1 refl))

    close_law : y.kind ≡ closes → (f : Option (List ℕ)) → Closed f → PieceIs T js q m y (close_text T js rows q f)
    close_law e none g = law.other_closing e (λ z o t l. close_found T js q m c rows h z o y t l g)
    close_law e (some r) g =
        let w = close_at T js q m c rows h k y a y.start (omega arith) (grows T js q m c k y a (bracket_close e)) (stands_inside T js q m c k y a (bracket_close e)) r g in
        subst (λ (v : List ℕ). PieceIs T js q m y (tag_if (tagged rows v) (close_tag T js v))) w.row_is
        (law.closing (tagged rows (row_in T js q (pair_span w.sort w.opener y w.with_tail))) w.taken (opener_tags w.sort w.opener y w.with_tail w.taken) ((close_tag_iff T js q m w.sort w.opener y w.with_tail _).1 refl))
      where
        -- by the opening piece
        opener_tags : (x : Sort) (o d : Piece) (t : Tail) → TakenOf m x o d t → law.Tags T js q m (tagged rows (row_in T js q (pair_span x o d t))) o
        opener_tags x o d t l =
            tags_law T js q m c rows h l.from o l.open_at (λ z. opening≢trailing (sym (opening_role T js q m c x o d t l) ∙ z)) (row_in T js q (pair_span x o d t)) refl

    -- it is what the law says
    text_by_law : (d : Kind) → y.kind ≡ d → PieceIs T js q m y (text_by T js rows q d y)
    text_by_law escape e = law.escape e
    text_by_law plain e = law.text e
    text_by_law code e =
        law.a_code_span {tags = tagged rows (row_in T js q (code_span y))} e (written (λ z. nothing≢trailing (ap role (sym e) ∙ z)) (row_in T js q (code_span y)) refl)
        (code_text_is q.bytes (labels_of T js) m c y (record { index = k; at = a; kind_is_code = e })) ((code_span_iff _ _ _).1 refl)
    text_by_law (opens x) e = open_law x e _ refl
    text_by_law closes e = close_law e _ refl
    text_by_law tail e = law.tail e

    pub text_is : PieceIs T js q m y (piece_text T js rows q y)
    text_is = text_by_law y.kind refl

    -- ---- and nothing else is
    as_kind : (d : Kind) → y.kind ≡ d → piece_text T js rows q y ≡ text_by T js rows q d y
    as_kind d e = ap (λ (z : Kind). text_by T js rows q z y) e

    open_only : (x : Sort) (d : Piece) (t : Tail) (b : Bool) (w : List ℕ) → TakenOf m x y d t → law.Tags T js q m b y → open_tag T js (row_in T js q (pair_span x y d t)) ≡ w
        → (f : Option (List ℕ)) → Found f → open_text T js rows q x f ≡ tag_if b w
    open_only x d t b w l tags p none g = absurd (open_found T js q m c rows h x y d t l g)
    open_only x d t b w l tags p (some r) g = cases (there no_tail r g)
      where
        no_tail : role y.kind ≢ trailing
        no_tail z = opening≢trailing (sym (opening_role T js q m c x y d t l) ∙ z)

        cases : StartsHere T js q m c rows h k y a y.start (omega arith) (grows T js q m c k y a no_tail) (stands_inside T js q m c k y a no_tail) r
            → tag_if (tagged rows r) (open_tag T js r) ≡ tag_if b w
        cases (as_code i e row) = absurd (nothing≢opening (ap role (sym e) ∙ opening_role T js q m c x y d t l))
        cases (as_opening i s e u k' row) =
            let same : row_in T js q (pair_span x y d t) ≡ r = ap (row_in T js q) (one_opened T js q m c x s y d e t u (grows T js q m c k y a no_tail) l k') ∙ row in
            let st : row_start r ≡ q.at + y.start = ap row_start (sym row) in
            ap (λ (z : Bool). tag_if z (open_tag T js r)) (tags_only T js q m c rows h k y a no_tail r st b tags)
            ∙ ap (tag_if b) (ap (open_tag T js) (sym same) ∙ p)

    close_only : (x : Sort) (o : Piece) (t : Tail) (b : Bool) (w : List ℕ) → TakenOf m x o y t → law.Tags T js q m b o → close_tag T js (row_in T js q (pair_span x o y t)) ≡ w
        → (f : Option (List ℕ)) → Closed f → close_text T js rows q f ≡ tag_if b w
    close_only x o t b w l tags p none g = absurd (close_found T js q m c rows h x o y t l g)
    close_only x o t b w l tags p (some r) g =
        let z = close_at T js q m c rows h k y a y.start (omega arith) (grows T js q m c k y a no_tail) (stands_inside T js q m c k y a no_tail) r g in
        let same : row_in T js q (pair_span x o y t) ≡ r
        = ap (row_in T js q) (one_closed T js q m c x z.sort o z.opener y t z.with_tail (grows T js q m c k y a no_tail) l z.taken) ∙ z.row_is in
        let st : row_start r ≡ q.at + o.start = ap row_start (sym same) in
        ap (λ (v : Bool). tag_if v (close_tag T js r)) (tags_only T js q m c rows h l.from o l.open_at quiet r st b tags)
        ∙ ap (tag_if b) (ap (close_tag T js) (sym same) ∙ p)
      where
        no_tail : role y.kind ≢ trailing
        no_tail z = closing≢trailing (sym (closing_role T js q m c x o y t l) ∙ z)

        quiet : role o.kind ≢ trailing
        quiet z = opening≢trailing (sym (opening_role T js q m c x o y t l) ∙ z)

    not_open : (x : Sort) → y.kind ≡ opens x → ((z : Sort) (d : Piece) (t : Tail) → TakenOf m z y d t → ⊥) → Found none
    not_open x e n = none_if _ (λ r g. cases r (there (bracket_open e) r g))
      where
        cases : (r : List ℕ) → StartsHere T js q m c rows h k y a y.start (omega arith) (grows T js q m c k y a (bracket_open e)) (stands_inside T js q m c k y a (bracket_open e)) r → ⊥
        cases r (as_code i d row) = nothing≢opening (ap role (sym d ∙ e))
        cases r (as_opening i s d t l row) = n s d t l

    not_close : y.kind ≡ closes → ((z : Sort) (o : Piece) (t : Tail) → TakenOf m z o y t → ⊥) → Closed none
    not_close e n =
        none_if _ (λ r g.
        let w = close_at T js q m c rows h k y a y.start (omega arith) (grows T js q m c k y a (bracket_close e)) (stands_inside T js q m c k y a (bracket_close e)) r g in
        n w.sort w.opener w.with_tail w.taken)

    code_only : (b : Bool) → y.kind ≡ code → law.Tags T js q m b y → tagged rows (row_in T js q (code_span y)) ≡ b
    code_only b e tags = tags_only T js q m c rows h k y a (λ z. nothing≢trailing (ap role (sym e) ∙ z)) (row_in T js q (code_span y)) refl b tags

    pub text_only : {w : List ℕ} → PieceIs T js q m y w → piece_text T js rows q y ≡ w
    text_only (law.escape e) = as_kind escape e
    text_only (law.text e) = as_kind plain e
    text_only {w} (law.a_code_span {tags = b} {text = t} e tags l p) =
        as_kind code e
        ∙ ap (λ (z : Bool). code_element z (bytes_of q.bytes (text_of q.bytes (code_span y)))) (code_only b e tags)
        ∙ ap (λ (z : Range). code_element b (bytes_of q.bytes z)) (code_text_read q.bytes y t l)
        ∙ (code_span_iff b (bytes_of q.bytes t) w).0 p
    text_only (law.opening {x = x} b {c = d} {t = t} {w = w} l tags p) =
        as_kind (opens x) (opener_kind T js q m c x y d t l) ∙ open_only x d t b w l tags ((open_tag_iff T js q m x y d t w).0 p) _ refl
    text_only (law.closing {x = x} b {o = o} {t = t} {w = w} l tags p) =
        as_kind closes (closes_kind y.kind (closing_role T js q m c x o y t l)) ∙ close_only x o t b w l tags ((close_tag_iff T js q m x o y t w).0 p) _ refl
    text_only (law.other_opening {x = x} e n) = as_kind (opens x) e ∙ ap (open_text T js rows q x) (not_open x e n)
    text_only (law.other_closing e n) = as_kind closes e ∙ ap (close_text T js rows q) (not_close e n)
    text_only (law.tail e) = as_kind tail e

  -- ---- the pieces in order; each stands in the marking
  pub texts_are : (xs : List Piece) → ((j : ℕ) (x : Piece) → get_elem? xs j ≡ some x → (k : ℕ) × At m.pieces k x) → PiecesAre T js q m xs (flat_map (piece_text T js rows q) xs)
  unfolding flat_map
  texts_are [] f = law.none
  texts_are (x ∷ xs) f = let (k, a) = f 0 x refl in law.more (text_is k x a) (texts_are xs (λ j y e. f (suc j) y e))

  pub texts_only : {xs : List Piece} {w : List ℕ} → ((j : ℕ) (x : Piece) → get_elem? xs j ≡ some x → (k : ℕ) × At m.pieces k x) → PiecesAre T js q m xs w
      → flat_map (piece_text T js rows q) xs ≡ w
  unfolding flat_map
  texts_only f law.none = refl
  texts_only f (law.more {x} {xs} {w} {v} p t) =
      let (k, a) = f 0 x refl in
      ap (λ (y : List ℕ). y ++ flat_map (piece_text T js rows q) xs) (text_only k x a p) ∙ ap (λ (y : List ℕ). w ++ y) (texts_only (λ j y e. f (suc j) y e) t)
