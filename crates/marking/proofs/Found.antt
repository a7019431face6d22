-- What the next piece comes to, by the stack and the last link, is what the conditions ask; and both go on.
use mathlib.Core.Path.{◌≡◌, refl, sym, ap, ◌∙◌, subst}
use mathlib.Core.Logic.{◌↔◌}
use mathlib.Core.Bool.{Bool, cond, true, false, false≢true}
use mathlib.Core.Option.{Option, none, some, some-injective, none-ne-some}
use mathlib.Core.List.{List, [], ◌∷◌, ◌++◌, append_assoc}
use Prim.Native.Nat.{ℕ, zero, suc, ◌≤◌, ◌<◌}
use native.Mathlib.Decide.{ℕ_discrete}
use native.Mathlib.Omega.{arith}
use lib.Dec.{eqb}
use lib.ListN.{length, get_or}
use borrow.Author.Tests.{eqb-true, eq-eqb, ltb-true, ltb-false}
use Rattle.marking.specs.Marking.{Sort, link, image, opens, opening, closing, trailing, role, Piece, Marking, At, Plays, tail_piece}
use Rattle.marking.specs.ReadingRules.{Grammar}
use Rattle.marking.specs.Reading.{Match, alone, paired, taken, pair_column, taken_column, piece_at, blank, with_tail, sort_of, barred, found_closing, stack_by, extra, place_after, last_after, extend}
use Rattle.marking.proofs.Roles.{image≢link, opening_opens}
use Rattle.marking.proofs.Pairs.{LastBalanced, pair_inside, taken_pair}
use Rattle.marking.proofs.Stack.{StackOf, stack_step, top_is}
use Rattle.marking.proofs.Sound.{Sound, MeetsTo}
use Rattle.marking.proofs.Unique.{not_both, none_of}
use Rattle.marking.proofs.Next.{TakenFound, FoundIs, taken_column_lem, own_taken, ext_taken_old, ext_taken_new}

-- what is known of the last link: no link opens later, and it is a link
pub record LastLink {T : Type 0} (m : Marking T) (last_link : ℕ) : Type 0 where
  pub bounds : (i j : ℕ) (t : T) → m.links i j ≡ some t → i ≤ last_link
  pub is_link : 0 < last_link → (j : ℕ) × (t : T) × (m.links last_link j ≡ some t)

pub at_get_d : (ps : List Piece) (i : ℕ) (o : Piece) → At ps i o → get_or ps i blank ≡ o
at_get_d [] i o h = absurd (none-ne-some o h)
at_get_d (x ∷ ps) zero o h = some-injective x o h
at_get_d (x ∷ ps) (suc i) o h = at_get_d ps i o h

-- ---- what a piece comes to is what the conditions ask

pub found_alone : {T : Type 0} (g : Grammar T) (m : Marking T) (q : Piece) → ((i : ℕ) → role q.kind ≡ closing → LastBalanced m.pieces i → ⊥) → FoundIs g m q alone
found_alone g m q no_pair =
    record {
      pair_found = λ i. ((λ e. absurd (false≢true e)), λ t. absurd (no_pair i t.0 t.1));
      taken_found = λ x i t. ((λ e. absurd (none-ne-some t e)), λ d. absurd (false≢true d.0));
    }

-- a pair has one sort and one tail
one_found : {T : Type 0} (g : Grammar T) (m : Marking T) (q : Piece) (x y : Sort) (i : ℕ) (t t' : T) → TakenFound g m q x i t → TakenFound g m q y i t' → taken x i t ≡ taken y i t'
one_found g m q x y i t t' l l' =
    let e : l.open_piece ≡ l'.open_piece = some-injective l.open_piece l'.open_piece (sym l.open_at ∙ l'.open_at) in
    let xy : x ≡ y = ap sort_of (sym l.of_sort ∙ ap (λ (o : Piece). o.kind) e ∙ l'.of_sort) in
    let tt' : t ≡ t' = some-injective t t' (sym l.reads ∙ ap (λ (o : Piece). g.tail_at o.end q.start) e ∙ l'.reads) in
    cc

module _ {T : Type 0} (g : Grammar T) (m : Marking T) (q : Piece) (st : List ℕ) (a : ℕ) (cl : role q.kind ≡ closing) (s : StackOf m.pieces (a ∷ st)) where
  top_found : (i : ℕ) → (eqb i a ≡ true) ↔ ((role q.kind ≡ closing) × LastBalanced m.pieces i)
  top_found i = (
    (λ e. (cl, (top_is m.pieces (a ∷ st) i s).0 (ap {B = Option ℕ} some (sym (eqb-true i a e))))),
    (λ t. eq-eqb i a (sym (some-injective a i ((top_is m.pieces (a ∷ st) i s).1 t.1)))),
  )

  found_paired : ((x : Sort) (t : T) → TakenFound g m q x a t → ⊥) → FoundIs g m q (paired a)
  found_paired not_taken =
      record {
        pair_found = top_found;
        taken_found = λ x i t. ((λ e. absurd (none-ne-some t e)), λ d. absurd (not_taken x t (subst (λ (k : ℕ). TakenFound g m q x k t) (eqb-true i a d.0) d.1)));
      }

  found_taken : (x : Sort) (t : T) → TakenFound g m q x a t → FoundIs g m q (taken x a t)
  found_taken x t l = record { pair_found = top_found; taken_found = λ y i t'. (to y i t', back y i t') }
    where
      to : (y : Sort) (i : ℕ) (t' : T) → taken_column y (taken x a t) i ≡ some t' → (eqb i a ≡ true) × TakenFound g m q y i t'
      to y i t' e =
          let w : taken x a t ≡ taken y i t' = taken_column_lem y (taken x a t) i t' e in
          let xy : x ≡ y = cc in
          let ai : a ≡ i = cc in
          let tt' : t ≡ t' = cc in
          (eq-eqb i a (sym ai), subst (λ (k : ℕ). TakenFound g m q y k t') ai (subst (λ (u : T). TakenFound g m q y a u) tt' (subst (λ (z : Sort). TakenFound g m q z a t) xy l)))

      back : (y : Sort) (i : ℕ) (t' : T) → (eqb i a ≡ true) × TakenFound g m q y i t' → taken_column y (taken x a t) i ≡ some t'
      back y i t' d =
          let ia : i ≡ a = eqb-true i a d.0 in
          ap (λ (z : Match T). taken_column y z i) (one_found g m q x y a t t' l (subst (λ (k : ℕ). TakenFound g m q y k t') ia d.1) ∙ ap (λ (k : ℕ). taken y k t') (sym ia))
          ∙ own_taken y i t'

-- a link may be barred by one between, and an image by none
barred_link : (x : Sort) (i last_link : ℕ) → barred x i last_link ≡ true → (x ≡ link) × (i < last_link)
barred_link link i last_link e = (refl, ltb-true i last_link e)
barred_link image i last_link e = absurd (false≢true e)

unbarred : (x : Sort) (i last_link : ℕ) → barred x i last_link ≡ false → x ≡ link → last_link ≤ i
unbarred link i last_link e xl = ltb-false i last_link e
unbarred image i last_link e xl = absurd (image≢link xl)

-- a pair that starts before the last link has a link between; any other pair has none
module _ {T : Type 0} (g : Grammar T) (m : Marking T) (b : ℕ) (last_link : ℕ) (ll : LastLink m last_link) (cl : role (g.kind_at b) ≡ closing) where
  -- the opening piece a, its sort, and the tail that it would have
  abbrev opening_piece : ℕ → Piece
  opening_piece a = get_or m.pieces a blank

  abbrev sort_at : ℕ → Sort
  sort_at a = sort_of (opening_piece a).kind

  abbrev tail_of : ℕ → Option T
  tail_of a = g.tail_at (opening_piece a).end b

  sort_is : (x : Sort) (a : ℕ) (t : T) → TakenFound g m (piece_at g b) x a t → sort_at a ≡ x
  sort_is x a t l = ap (λ (y : Piece). sort_of y.kind) (at_get_d m.pieces a l.open_piece l.open_at) ∙ ap sort_of l.of_sort

  blocked : (x : Sort) (a : ℕ) (t : T) → x ≡ link → a < last_link → TakenFound g m (piece_at g b) x a t → ⊥
  blocked x a t xl h l =
      let w : (j : ℕ) × (t' : T) × (m.links last_link j ≡ some t') = ll.is_link (omega arith) in
      not_both (l.no_link xl last_link w.0 h) w.2

  free : (a : ℕ) → last_link ≤ a → (i' j' : ℕ) → a < i' → m.links i' j' ≡ none
  free a h i' j' hi = none_of (m.links i' j') (λ t l. let z : i' ≤ last_link = ll.bounds i' j' t l in omega arith)

  by_tail : (st : List ℕ) (a : ℕ) → StackOf m.pieces (a ∷ st) → (sort_at a ≡ link → last_link ≤ a) → (o : Option T) → tail_of a ≡ o
      → FoundIs g m (piece_at g b) (with_tail (sort_at a) a o)
  by_tail st a s h none e =
      found_paired g m (piece_at g b) st a cl s
      (λ x t l. not_both e (ap (λ (y : Piece). g.tail_at y.end b) (at_get_d m.pieces a l.open_piece l.open_at) ∙ l.reads))
  by_tail st a s h (some t) e =
      let w : Plays opening m.pieces a = ((s 0 a).0 refl).opened in
      let o : opening_piece a ≡ w.piece = at_get_d m.pieces a w.piece w.at in
      found_taken g m (piece_at g b) st a cl s (sort_at a) t
      (record {
        no_link = λ xl. free a (h xl);
        open_piece = w.piece;
        open_at = w.at;
        of_sort = opening_opens w.piece.kind w.as_role ∙ ap (λ (y : Piece). opens (sort_of y.kind)) (sym o);
        reads = ap (λ (y : Piece). g.tail_at y.end b) (sym o) ∙ e;
      })

  by_order : (st : List ℕ) (a : ℕ) → StackOf m.pieces (a ∷ st) → (v : Bool) → barred (sort_at a) a last_link ≡ v
      → FoundIs g m (piece_at g b) (cond v (paired a) (with_tail (sort_at a) a (tail_of a)))
  by_order st a s true e =
      let w : (sort_at a ≡ link) × (a < last_link) = barred_link (sort_at a) a last_link e in
      found_paired g m (piece_at g b) st a cl s (λ x t l. blocked x a t (sym (sort_is x a t l) ∙ w.0) w.1 l)
  by_order st a s false e = by_tail st a s (unbarred (sort_at a) a last_link e) (tail_of a) refl

  pub found_closing_lem : (st : List ℕ) → StackOf m.pieces st → FoundIs g m (piece_at g b) (found_closing sort_at tail_of last_link st)
  found_closing_lem [] s = found_alone g m (piece_at g b) (λ i e l. none-ne-some i ((top_is m.pieces [] i s).1 l))
  found_closing_lem (a ∷ st) s = by_order st a s (barred (sort_at a) a last_link) refl

-- ---- one step

module _ {T : Type 0} (g : Grammar T) (sd : Sound g) (m : Marking T) (b : ℕ) (c : MeetsTo g b m) (inside : b < g.size) where
  pub further : (f : Match T) → FoundIs g m (piece_at g b) f → (b < place_after g (piece_at g b) f) × (place_after g (piece_at g b) f ≤ g.size)
  further alone fi = (sd.grows b inside, sd.within b inside)
  further (paired i) fi = (sd.grows b inside, sd.within b inside)
  further (taken x i t) fi =
      let l : (pair_column (taken x i t) i ≡ true) × TakenFound g m (piece_at g b) x i t = (fi.taken_found x i t).0 (own_taken x i t) in
      (omega (arith, sd.grows b inside), sd.tail_within l.1.open_piece.end b t inside ((fi.pair_found i).0 l.0).0 l.1.reads)

  pub stack_further : (f : Match T) (st : List ℕ) → StackOf m.pieces st
      → StackOf (m.pieces ++ piece_at g b ∷ extra g (piece_at g b) f) (stack_by (length m.pieces) st (role (g.kind_at b)))
  stack_further alone st s = stack_step (role (g.kind_at b)) m.pieces (piece_at g b) st refl s
  stack_further (paired i) st s = stack_step (role (g.kind_at b)) m.pieces (piece_at g b) st refl s
  stack_further (taken x i t) st s =
      subst (λ (l : List Piece). StackOf l (stack_by (length m.pieces) st (role (g.kind_at b)))) (append_assoc m.pieces (piece_at g b ∷ []) (tail_piece (piece_at g b) (g.length_of t) ∷ []))
      (stack_step trailing (m.pieces ++ piece_at g b ∷ []) (tail_piece (piece_at g b) (g.length_of t)) (stack_by (length m.pieces) st (role (g.kind_at b))) refl
      (stack_step (role (g.kind_at b)) m.pieces (piece_at g b) st refl s))

  pub last_bounds : (last_link : ℕ) → LastLink m last_link → (f : Match T) (fi : FoundIs g m (piece_at g b) f) (i j : ℕ) (t : T)
      → (extend g m (piece_at g b) f).links i j ≡ some t → i ≤ last_after last_link f
  last_bounds last_link ll f fi i j t l = by (ℕ_discrete j (length m.pieces))
    where
      old : (f : Match T) → FoundIs g m (piece_at g b) f → m.links i j ≡ some t → i ≤ last_after last_link f
      old alone fi' h = ll.bounds i j t h
      old (paired a) fi' h = ll.bounds i j t h
      old (taken link a u) fi' h =
          let n : ¬ (a < i) = λ z. not_both (((fi'.taken_found link a u).0 (own_taken link a u)).1.no_link refl i j z) h in
          omega arith
      old (taken image a u) fi' h = ll.bounds i j t h

      by : Dec (j ≡ length m.pieces) → i ≤ last_after last_link f
      by (yes e) =
          let w : f ≡ taken link i t = taken_column_lem link f i t (sym (ext_taken_new g m (piece_at g b) f link i) ∙ ap (λ (k : ℕ). (extend g m (piece_at g b) f).links i k) (sym e) ∙ l) in
          rw w (omega arith)
      by (no ne) = old f fi (sym (ext_taken_old g m (piece_at g b) f link i j ne) ∙ l)

  pub last_link_is : (last_link : ℕ) → LastLink m last_link → (f : Match T) (fi : FoundIs g m (piece_at g b) f) → 0 < last_after last_link f
      → (j : ℕ) × (t : T) × ((extend g m (piece_at g b) f).links (last_after last_link f) j ≡ some t)
  last_link_is last_link ll f fi h = by f refl h
    where
      old : 0 < last_link → (j : ℕ) × (t : T) × ((extend g m (piece_at g b) f).links last_link j ≡ some t)
      old h' =
          let w : (j : ℕ) × (t : T) × (m.links last_link j ≡ some t) = ll.is_link h' in
          let z : w.0 < length m.pieces = pair_inside (taken_pair c link last_link w.0 w.1 w.2) in
          (w.0, w.1, ext_taken_old g m (piece_at g b) f link last_link w.0 (omega arith) ∙ w.2)

      by : (f' : Match T) → f ≡ f' → 0 < last_after last_link f' → (j : ℕ) × (t : T) × ((extend g m (piece_at g b) f).links (last_after last_link f') j ≡ some t)
      by alone ef h' = old h'
      by (paired i) ef h' = old h'
      by (taken link i t) ef h' = (length m.pieces, t, ext_taken_new g m (piece_at g b) f link i ∙ ap (λ (y : Match T). taken_column link y i) ef ∙ own_taken link i t)
      by (taken image i t) ef h' = old h'
