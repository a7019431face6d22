-- The content of a paragraph: the reading of its bytes by the rows is what the pieces of its marking come to, in order.
use Prim.Native.Nat.{ℕ, suc, ◌+◌}
use native.Mathlib.Nat.{add-zero}
use native.Mathlib.Omega.{arith}
use mathlib.Core.Path.{◌≡◌, refl, sym, ap, ◌∙◌, subst}
use mathlib.Core.Logic.{◌≢◌, ◌↔◌}
use mathlib.Core.Option.{some, some-injective, none-ne-some}
use mathlib.Core.List.{List, [], ◌∷◌, ◌++◌, flat_map}
use lib.ListN.{length, get_elem?}
use Rattle.marking.specs.Marking.{Sort, Kind, escape, code, plain, closes, tail, opens, Role, nothing, opening, closing, trailing, role, Piece, Marking, At, Tiles, Paired, tail_piece, FollowsTaken}
use Rattle.marking.specs.Spans.{TakenOf}
use Rattle.marking.proofs.Roles.{nothing≢trailing, opening≢trailing, closing≢trailing, trailing≢closing}
use Rattle.marking.proofs.Pairs.{taken_pair}
use Rattle.texts.specs.Texts.{Texts}
use Rattle.block.specs.Block.{Placed}
use Rattle.row.specs.Row.{Listed}
use Rattle.definition.proofs.NotePlaces.{Inside}
use Rattle.inline.specs.Tails.{Tail, length_of}
use Rattle.note.specs.Note.{MarkingOf}
use Rattle.page.specs.Page.{ParagraphIs, paragraph}
use Rattle.page.specs.Reading.{content_from, paragraph_page, from}
use Rattle.html.specs.Tags.{paragraph_open, paragraph_close}
use Rattle.page.proofs.Turns.{at_end}
use Rattle.page.proofs.Pieces.{RowsHere, closing_role, same_index, grows}
use Rattle.page.proofs.Texts.{piece_text, texts_are, texts_only}
use Rattle.page.proofs.Steps.{Stepped, on, past, step}

-- where the reading goes on before these pieces, the first of which starts at a: after a tail, if the first is one
abbrev goes_on_by : Role → ℕ → ℕ → ℕ
goes_on_by nothing a e = a
goes_on_by opening a e = a
goes_on_by closing a e = a
goes_on_by trailing a e = e

abbrev goes_on : ℕ → List Piece → ℕ
goes_on a [] = a
goes_on a (x ∷ xs) = goes_on_by (role x.kind) a x.end

same_place : (r : Role) (a e : ℕ) → r ≢ trailing → goes_on_by r a e ≡ a
same_place nothing a e n = refl
same_place opening a e n = refl
same_place closing a e n = refl
same_place trailing a e n = absurd (n refl)

goes_on_here : (a : ℕ) (xs : List Piece) → ((y : Piece) → get_elem? xs 0 ≡ some y → role y.kind ≢ trailing) → goes_on a xs ≡ a
goes_on_here a [] f = refl
goes_on_here a (x ∷ xs) f = same_place (role x.kind) a x.end (f x refl)

goes_on_past : (a : ℕ) (xs : List Piece) (d : Piece) (n : ℕ) → get_elem? xs 0 ≡ some (tail_piece d n) → goes_on a xs ≡ d.end + n
goes_on_past a [] d n e = absurd (none-ne-some (tail_piece d n) e)
goes_on_past a (x ∷ xs) d n e = ap (λ (y : Piece). goes_on_by (role y.kind) a y.end) (some-injective x (tail_piece d n) e)

data Trails (x : Piece) : Type 0 where
  trails : x.kind ≡ tail → Trails x
  others : role x.kind ≢ trailing → Trails x

trails_or_not : (x : Piece) (k : Kind) → x.kind ≡ k → Trails x
trails_or_not x escape e = others (λ z. nothing≢trailing (ap role (sym e) ∙ z))
trails_or_not x code e = others (λ z. nothing≢trailing (ap role (sym e) ∙ z))
trails_or_not x plain e = others (λ z. nothing≢trailing (ap role (sym e) ∙ z))
trails_or_not x closes e = others (λ z. closing≢trailing (ap role (sym e) ∙ z))
trails_or_not x tail e = trails e
trails_or_not x (opens s) e = others (λ z. opening≢trailing (ap role (sym e) ∙ z))

module _ (T : Texts) (js : List Listed) (q : Placed) (m : Marking Tail) (c : MarkingOf T js q m) (w : Inside T.note q) (rows : List (List ℕ)) (h : RowsHere T js q m rows) where
  abbrev rest : ℕ → List ℕ
  rest a = from T js rows q.bytes q.at a

  abbrev written : Piece → List ℕ
  written x = piece_text T js rows q x

  -- after a piece that closes neither a link nor an image stands no tail
  no_tail_after : (k : ℕ) (x : Piece) → At m.pieces k x → ((s : Sort) (o : Piece) (t : Tail) → TakenOf m s o x t → ⊥) → (y : Piece) → At m.pieces (suc k) y → role y.kind ≢ trailing
  no_tail_after k x a n y b e =
      let f : FollowsTaken m (suc k) = c.no_other_tails (suc k) y b e in
      let pair : Paired m.pieces f.from f.to = taken_pair c f.sort f.from f.to f.with_tail f.taken in
      let to : k ≡ f.to = omega (arith, f.next) in
      n f.sort pair.opened.piece f.with_tail
      (record { from = f.from; to = f.to; taken = f.taken; open_at = pair.opened.at; close_at = ap (get_elem? m.pieces) (sym to) ∙ a })

  module _ (k : ℕ) (x : Piece) (xs : List Piece) (here : (j : ℕ) → get_elem? (x ∷ xs) j ≡ get_elem? m.pieces (k + j)) where
    first_at : At m.pieces k x
    first_at = ap (get_elem? m.pieces) (sym (add-zero k)) ∙ sym (here 0)

    second_at : get_elem? xs 0 ≡ get_elem? m.pieces (suc k)
    second_at = let z : k + 1 ≡ suc k = omega arith in here 1 ∙ ap (get_elem? m.pieces) z

    after_none : ((s : Sort) (o : Piece) (t : Tail) → TakenOf m s o x t → ⊥) → goes_on x.end xs ≡ x.end
    after_none n = goes_on_here x.end xs (λ y e. no_tail_after k x first_at n y (sym second_at ∙ e))

    after_taken : (s : Sort) (o : Piece) (t : Tail) → TakenOf m s o x t → goes_on x.end xs ≡ x.end + length_of t
    after_taken s o t l =
        let ix : l.to ≡ k = same_index T js q m c l.to x k x l.close_at first_at quiet (omega arith) (grows T js q m c k x first_at quiet) in
        goes_on_past x.end xs x (length_of t) (second_at ∙ ap (λ (i : ℕ). get_elem? m.pieces (suc i)) (sym ix) ∙ c.tails s l.from l.to t x l.taken l.close_at)
      where
        quiet : role x.kind ≢ trailing
        quiet z = closing≢trailing (sym (closing_role T js q m c s o x t l) ∙ z)

    further : (j : ℕ) → get_elem? xs j ≡ get_elem? m.pieces (suc k + j)
    further j = let z : k + suc j ≡ suc k + j = omega arith in here (suc j) ∙ ap (get_elem? m.pieces) z

    one : (v : List ℕ) → v ≡ rest (goes_on x.end xs) → Trails x → written x ++ v ≡ rest (goes_on x.start (x ∷ xs))
    one v e (trails z) =
        let n = after_none (λ s o t l. trailing≢closing (ap role (sym z) ∙ closing_role T js q m c s o x t l)) in
        rw z (e ∙ ap rest n)
    one v e (others z) = by_step (step T js q m c w rows h k x first_at z)
      where
        start : goes_on x.start (x ∷ xs) ≡ x.start
        start = same_place (role x.kind) x.start x.end z

        by_step : Stepped T js q m c w rows h x → written x ++ v ≡ rest (goes_on x.start (x ∷ xs))
        by_step (on n g) = ap (λ (y : List ℕ). written x ++ y) (e ∙ ap rest (after_none n)) ∙ sym g ∙ ap rest (sym start)
        by_step (past s o t l g) = ap (λ (y : List ℕ). written x ++ y) (e ∙ ap rest (after_taken s o t l)) ∙ sym g ∙ ap rest (sym start)

  in_order : (xs : List Piece) (k a : ℕ) → ((j : ℕ) → get_elem? xs j ≡ get_elem? m.pieces (k + j)) → Tiles a xs (length q.bytes) → flat_map written xs ≡ rest (goes_on a xs)
  unfolding flat_map
  in_order [] k a f t = sym (ap rest t ∙ at_end T js rows q.bytes q.at)
  in_order (x ∷ xs) k a f t =
      one k x xs f (flat_map written xs) (in_order xs (suc k) x.end (further k x xs f) t.2) (trails_or_not x x.kind refl)
      ∙ ap (λ (i : ℕ). rest (goes_on i (x ∷ xs))) t.0

  all_there : (j : ℕ) (x : Piece) → get_elem? m.pieces j ≡ some x → (k : ℕ) × At m.pieces k x
  all_there j x e = (j, e)

  -- the content of the paragraph by the rows is that of all its pieces
  content_is : flat_map written m.pieces ≡ content_from T js rows 0 q.bytes q.at
  content_is =
      let z : (j : ℕ) → get_elem? m.pieces j ≡ get_elem? m.pieces (0 + j) = λ j. let y : j ≡ 0 + j = omega arith in ap (get_elem? m.pieces) y in
      in_order m.pieces 0 0 z c.tiled ∙ at_start
    where
      first : (k : ℕ) (x : Piece) → get_elem? m.pieces 0 ≡ some x → role x.kind ≢ trailing
      first k x a e = let f : FollowsTaken m 0 = c.no_other_tails 0 x a e in absurd (omega (arith, f.next))

      at_start : rest (goes_on 0 m.pieces) ≡ content_from T js rows 0 q.bytes q.at
      at_start = ap rest (goes_on_here 0 m.pieces (first 0)) ∙ ap (content_from T js rows 0 q.bytes) (add-zero q.at)

  paragraph_by_law : ParagraphIs T js q m (paragraph_page T js rows q)
  unfolding paragraph_page
  paragraph_by_law = rw (← content_is) (paragraph (texts_are T js q m c rows h m.pieces all_there))

  paragraph_only : {v : List ℕ} → ParagraphIs T js q m v → paragraph_page T js rows q ≡ v
  unfolding paragraph_page
  paragraph_only (paragraph t) = ap (λ (y : List ℕ). paragraph_open ++ y ++ paragraph_close) (sym content_is ∙ texts_only T js q m c rows h all_there t)

  pub paragraph_iff : (v : List ℕ) → (paragraph_page T js rows q ≡ v) ↔ ParagraphIs T js q m v
  paragraph_iff v = ((λ e. subst (ParagraphIs T js q m) e paragraph_by_law), paragraph_only)
