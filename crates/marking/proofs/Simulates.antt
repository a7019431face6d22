-- The scan, which keeps places only, lists the spans of the reading.
use mathlib.Core.Path.{◌≡◌, refl, sym, ap, ap₂, ◌∙◌, subst}
use mathlib.Core.Logic.{◌≢◌}
use mathlib.Core.Bool.{Bool, cond, true, false}
use mathlib.Core.Option.{Option, none, some}
use mathlib.Core.List.{List, [], ◌∷◌, ◌++◌, map, tail}
use Prim.Native.Nat.{ℕ, zero, suc, ◌≤◌, ◌<◌}
use native.Mathlib.Decide.{ℕ_discrete, dec_lt}
use native.Mathlib.Omega.{arith}
use lib.Dec.{ltb}
use lib.ListN.{length, get_elem?, get_or, get_or-append}
use lib.Seq.{get_or-append_seam}
use borrow.Author.Tests.{ltb-true, ltb-false, lt-ltb, le-ltb}
use Rattle.marking.specs.Marking.{Sort, link, image, Kind, Role, nothing, opening, closing, trailing, role, Piece, At, Plays, Tiles, Paired}
use Rattle.marking.specs.Spans.{Span, pair_span, SpansAre}
use Rattle.marking.specs.ReadingRules.{Grammar, Computed}
use Rattle.marking.specs.Reading.{Match, alone, paired, taken, State, piece_at, blank, with_tail, sort_of, barred, found_closing, found_by, stack_by, extra, place_after, last_after, new_spans, extend, found, step, run, start, reading}
use Rattle.marking.specs.ReadingSpans.{Scan, scan_found, scan_step, scan, finish, scan_start, spans}
use Rattle.marking.proofs.Lists.{at_inside}
use Rattle.marking.proofs.Roles.{opening≢trailing}
use Rattle.marking.proofs.Tiles.{tiles_order}
use Rattle.marking.proofs.Pairs.{pair_inside, taken_pair}
use Rattle.marking.proofs.Sound.{Sound, rules_of}
use Rattle.marking.proofs.Next.{FoundIs, own_taken}
use Rattle.marking.proofs.Found.{at_get_d}
use Rattle.marking.proofs.Exists.{Inv, found_is, step_inv, start_inv, run_inv, Done}

abbrev pub start_of : List Piece → ℕ → ℕ
start_of ps i = (get_or ps i blank).start

abbrev pub view : {T : Type 0} → State T → Scan T
view s = record { place = s.place; stack = map (start_of s.marking.pieces) s.stack; last_link = start_of s.marking.pieces s.last_link; spans = s.spans }

abbrev map_found : {T : Type 0} → (ℕ → ℕ) → Match T → Match T
map_found h alone = alone
map_found h (paired i) = paired (h i)
map_found h (taken x i t) = taken x (h i) t

get_d_at : (ps : List Piece) (i : ℕ) → i < length ps → At ps i (get_or ps i blank)
get_d_at [] i h = absurd (omega arith)
get_d_at (x ∷ ps) zero h = refl
get_d_at (x ∷ ps) (suc i) h = get_d_at ps i (omega arith)

ltb_same : (a b a' b' : ℕ) → (a < b → a' < b') → (b ≤ a → b' ≤ a') → ltb a' b' ≡ ltb a b
ltb_same a b a' b' f h = by (ltb a b) refl
  where
    by : (v : Bool) → ltb a b ≡ v → ltb a' b' ≡ v
    by true e = lt-ltb a' b' (f (ltb-true a b e))
    by false e = le-ltb a' b' (h (ltb-false a b e))

map_same : {A B : Type 0} (f h : A → B) (l : List A) → ((d : ℕ) (a : A) → get_elem? l d ≡ some a → f a ≡ h a) → map f l ≡ map h l
map_same f h [] e = refl
map_same {A} {B} f h (x ∷ l) e = ap₂ {A = B} {B = List B} {C = List B} ◌∷◌ (e 0 x refl) (map_same f h l (λ d a p. e (suc d) a p))

not_trailing : (r : Role) → r ≡ opening → r ≢ trailing
not_trailing r e e' = opening≢trailing (sym e ∙ e')

started : {T : Type 0} (g : Grammar T) (o : Piece) → Computed g o → piece_at g o.start ≡ o
started g o d = λ x. record { kind = sym d.kind_is x; start = o.start; end = sym d.end_is x }

map_cond : {T : Type 0} (h : ℕ → ℕ) (x : Sort) (i : ℕ) (b : Bool) (o : Option T) → cond b (paired (h i)) (with_tail x (h i) o) ≡ map_found h (cond b (paired i) (with_tail x i o))
map_cond h x i true o = refl
map_cond h x i false none = refl
map_cond h x i false (some t) = refl

map_place : {T : Type 0} (g : Grammar T) (q : Piece) (h : ℕ → ℕ) (f : Match T) → place_after g q (map_found h f) ≡ place_after g q f
map_place g q h alone = refl
map_place g q h (paired i) = refl
map_place g q h (taken x i t) = refl

first_kept : (ps rest : List Piece) (q : Piece) (b : ℕ) → Tiles 0 ps b → q.start ≡ b → start_of ps 0 ≡ start_of (ps ++ q ∷ rest) 0
first_kept [] rest q b t e = t ∙ sym e
first_kept (x ∷ ps) rest q b t e = refl

module _ {T : Type 0} (g : Grammar T) (s : State T) (v : Inv g s) where
  -- the pieces so far, the next one, its role, and what it adds
  abbrev ps : List Piece
  ps = s.marking.pieces

  abbrev next : Piece
  next = piece_at g s.place

  abbrev now : Role
  now = role (g.kind_at s.place)

  abbrev added : List Piece
  added = next ∷ extra g next (found g s)

  open_starts : (i : ℕ) → Plays opening ps i → Computed g (get_or ps i blank)
  open_starts i p =
      subst (λ (y : Piece). Computed g y) (sym (at_get_d ps i p.piece p.at))
      (v.meets.kinds i p.piece p.at (not_trailing (role p.piece.kind) p.as_role))

  open_inside : (i : ℕ) → Plays opening ps i → i < length ps
  open_inside i p = at_inside ps i p.piece p.at

  -- an opening piece is what starts where it starts
  open_is : (i : ℕ) → Plays opening ps i → piece_at g (start_of ps i) ≡ get_or ps i blank
  open_is i p = started g (get_or ps i blank) (open_starts i p)

  by_order : (i k : ℕ) → i < k → k < length ps
      → (start_of ps i ≤ (get_or ps i blank).end) × ((get_or ps i blank).end ≤ start_of ps k)
  by_order i k h h' =
      tiles_order 0 s.place ps i k (get_or ps i blank) (get_or ps k blank) v.meets.tiled
      (get_d_at ps i (omega arith)) (get_d_at ps k h') h

  last_inside : 0 < s.last_link → s.last_link < length ps
  last_inside h =
      let w : (j : ℕ) × (t : T) × (s.marking.links s.last_link j ≡ some t) = v.last_is.is_link h in
      let p : Paired ps s.last_link w.0 = taken_pair v.meets link s.last_link w.0 w.1 w.2 in
      omega (arith, p.before, pair_inside p)

  -- the order of an opening piece and of the last link, by index and by place
  order_is : (i : ℕ) → Plays opening ps i → ltb (start_of ps i) (start_of ps s.last_link) ≡ ltb i s.last_link
  order_is i p = ltb_same i s.last_link (start_of ps i) (start_of ps s.last_link) less (λ h. by h (ℕ_discrete i s.last_link))
    where
      less : i < s.last_link → start_of ps i < start_of ps s.last_link
      less h =
          let d : Computed g (get_or ps i blank) = open_starts i p in
          omega (arith, by_order i s.last_link h (last_inside (omega arith)), d.end_is, v.sound.grows (start_of ps i) d.inside)

      by : s.last_link ≤ i → Dec (i ≡ s.last_link) → start_of ps s.last_link ≤ start_of ps i
      by h (yes e) = let z : start_of ps i ≡ start_of ps s.last_link = ap (start_of ps) e in omega arith
      by h (no ne) = omega (arith, by_order s.last_link i (omega arith) (open_inside i p))

  -- ---- what a piece comes to, by index and by place

  barred_is : (x : Sort) (i : ℕ) → Plays opening ps i → barred x (start_of ps i) (start_of ps s.last_link) ≡ barred x i s.last_link
  barred_is link i p = order_is i p
  barred_is image i p = refl

  closing_is : (st : List ℕ) → ((d i : ℕ) → get_elem? st d ≡ some i → Plays opening ps i)
      → found_closing (λ o. sort_of (g.kind_at o)) (λ o. g.tail_at (g.end_at o) s.place) (start_of ps s.last_link) (map (start_of ps) st)
      ≡ map_found (start_of ps) (found_closing (λ i. sort_of (get_or ps i blank).kind) (λ i. g.tail_at (get_or ps i blank).end s.place) s.last_link st)
  closing_is [] w = refl
  closing_is (i ∷ st) w =
      let p : Plays opening ps i = w 0 i refl in
      let o : Piece = get_or ps i blank in
      let x : Sort = sort_of o.kind in
      let a : ℕ = start_of ps i in
      ap (λ (k : Kind). cond (barred (sort_of k) a (start_of ps s.last_link)) (paired a) (with_tail (sort_of k) a (g.tail_at (g.end_at a) s.place))) (sym (open_starts i p).kind_is)
      ∙ ap (λ (b : Bool). cond b (paired a) (with_tail x a (g.tail_at (g.end_at a) s.place))) (barred_is x i p)
      ∙ ap (λ (e : ℕ). cond (barred x i s.last_link) (paired a) (with_tail x a (g.tail_at e s.place))) (sym (open_starts i p).end_is)
      ∙ map_cond (start_of ps) x i (barred x i s.last_link) (g.tail_at o.end s.place)

  stack_opens : (d i : ℕ) → get_elem? s.stack d ≡ some i → Plays opening ps i
  stack_opens d i h = ((v.stack_is d i).0 h).opened

  found_view : scan_found g (view s) ≡ map_found (start_of ps) (found g s)
  unfolding scan_found found
  found_view = by now
    where
      by : (r : Role) → found_by (λ o. sort_of (g.kind_at o)) (λ o. g.tail_at (g.end_at o) s.place) (start_of ps s.last_link) (map (start_of ps) s.stack) r
          ≡ map_found (start_of ps) (found_by (λ i. sort_of (get_or ps i blank).kind) (λ i. g.tail_at (get_or ps i blank).end s.place) s.last_link s.stack r)
      by nothing = refl
      by opening = refl
      by closing = closing_is s.stack stack_opens
      by trailing = refl

  -- ---- the longer list

  grown : ℕ → ℕ
  grown i = start_of (ps ++ added) i

  start_kept : (i : ℕ) → i < length ps → start_of ps i ≡ grown i
  unfolding grown
  start_kept i h = ap (λ (y : Piece). y.start) (sym (get_or-append ps added blank i h))

  start_new : grown (length ps) ≡ s.place
  unfolding grown
  start_new = ap (λ (y : Piece). y.start) (get_or-append_seam ps next (extra g next (found g s)) blank)

  stack_kept : map (start_of ps) s.stack ≡ map grown s.stack
  stack_kept = map_same (start_of ps) grown s.stack (λ d i h. start_kept i (open_inside i (stack_opens d i h)))

  stack_view : stack_by s.place (map (start_of ps) s.stack) now ≡ map grown (stack_by (length ps) s.stack now)
  stack_view = by now
    where
      tail_map : (f : ℕ → ℕ) (l : List ℕ) → tail (map f l) ≡ map f (tail l)
      tail_map f [] = refl
      tail_map f (x ∷ l) = refl

      by : (r : Role) → stack_by s.place (map (start_of ps) s.stack) r ≡ map grown (stack_by (length ps) s.stack r)
      by nothing = stack_kept
      by opening = ap₂ {A = ℕ} {B = List ℕ} {C = List ℕ} ◌∷◌ (sym start_new) stack_kept
      by closing = ap tail stack_kept ∙ tail_map grown s.stack
      by trailing = stack_kept

  last_kept : start_of ps s.last_link ≡ grown s.last_link
  unfolding grown
  last_kept = by (dec_lt 0 s.last_link)
    where
      by : Dec (0 < s.last_link) → start_of ps s.last_link ≡ grown s.last_link
      by (yes h) = start_kept s.last_link (last_inside h)
      by (no h) =
          let e : s.last_link ≡ 0 = omega arith in
          ap (start_of ps) e
          ∙ first_kept ps (extra g next (found g s)) next s.place v.meets.tiled refl
          ∙ ap grown (sym e)

  found_opens : (x : Sort) (i : ℕ) (t : T) → found g s ≡ taken x i t → Plays opening ps i
  found_opens x i t e =
      let fi : FoundIs g s.marking next (taken x i t) = subst (λ (y : Match T). FoundIs g s.marking next y) e (found_is g s v) in
      ((fi.pair_found i).0 ((fi.taken_found x i t).0 (own_taken x i t)).0).1.opened

  last_view : last_after (start_of ps s.last_link) (map_found (start_of ps) (found g s)) ≡ grown (last_after s.last_link (found g s))
  last_view = by (found g s) refl
    where
      by : (f : Match T) → found g s ≡ f → last_after (start_of ps s.last_link) (map_found (start_of ps) f) ≡ grown (last_after s.last_link f)
      by alone e = last_kept
      by (paired i) e = last_kept
      by (taken link i t) e = start_kept i (open_inside i (found_opens link i t e))
      by (taken image i t) e = last_kept

  spans_view : new_spans (piece_at g) next (map_found (start_of ps) (found g s)) ≡ new_spans (λ i. get_or ps i blank) next (found g s)
  spans_view = by (found g s) refl
    where
      by : (f : Match T) → found g s ≡ f → new_spans (piece_at g) next (map_found (start_of ps) f) ≡ new_spans (λ i. get_or ps i blank) next f
      by alone e = refl
      by (paired i) e = refl
      by (taken x i t) e = ap (λ (y : Piece). pair_span x y next t ∷ []) (open_is i (found_opens x i t e))

  pub step_view : scan_step g (view s) ≡ view (step g s)
  unfolding scan_step step extend grown
  step_view = λ x.
      record {
        place = (ap (place_after g next) found_view ∙ map_place g next (start_of ps) (found g s)) x;
        stack = stack_view x;
        last_link = (ap (last_after (start_of ps s.last_link)) found_view ∙ last_view) x;
        spans = s.spans ++ (ap (new_spans (piece_at g) next) found_view ∙ spans_view) x;
      }

-- ---- the whole scan

run_suc_view : (n : ℕ) {T : Type 0} (g : Grammar T) (s : State T) → Inv g s
    → ((s' : State T) → Inv g s' → scan n g (view s') ≡ view (run n g s')) → scan (suc n) g (view s) ≡ view (run (suc n) g s)
unfolding run scan
run_suc_view n {T} g s v below = by (ltb s.place g.size) refl
  where
    by : (x : Bool) → ltb s.place g.size ≡ x
        → ◌≡◌ {A = Scan T} (elim x as (λ y. Scan T) [ true ↦ scan n g (scan_step g (view s)) | false ↦ view s ]) (view (elim x as (λ y. State T) [ true ↦ run n g (step g s) | false ↦ s ]))
    by true e = ap (scan n g) (step_view g s v) ∙ below (step g s) (step_inv g s v (ltb-true s.place g.size e)).0
    by false e = refl

run_view : (n : ℕ) {T : Type 0} (g : Grammar T) (s : State T) → Inv g s → scan n g (view s) ≡ view (run n g s)
unfolding run scan
run_view zero g s v = refl
run_view (suc n) g s v = run_suc_view n g s v (λ s' v'. run_view n g s' v')

pub spans_are_reading : {T : Type 0} (g : Grammar T) → Sound g → SpansAre (rules_of g) (reading g) (spans g)
unfolding reading spans finish scan_start start
spans_are_reading {T} g sd =
    let w : Done g (run g.size g start) = run_inv g.size g start (start_inv g sd) (omega arith) in
    subst (λ (l : List (Span T)). SpansAre (rules_of g) (run g.size g start).marking l) (sym (ap (λ (y : Scan T). y.spans) (run_view g.size g start (start_inv g sd)))) w.0.spans_are.are
