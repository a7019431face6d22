-- One more piece and what it comes to: the pieces, pairs, links and images of the marking that is extended by it.
use mathlib.Core.Path.{◌≡◌, refl, sym, ap, ◌∙◌, subst}
use mathlib.Core.Logic.{◌↔◌, ◌≢◌, ◌⊎◌, inl, inr}
use mathlib.Core.Bool.{Bool, cond, true, false, false≢true}
use mathlib.Core.Option.{Option, none, some, some-injective, none-ne-some}
use mathlib.Core.List.{List, [], ◌∷◌, ◌++◌}
use Prim.Native.Nat.{ℕ, zero, suc, ◌+◌, ◌<◌}
use native.Mathlib.Omega.{arith}
use lib.Dec.{eqb}
use lib.ListN.{length, get_elem?}
use borrow.Author.Tests.{eqb-true, eq-eqb, ne_eqb}
use Rattle.marking.specs.Marking.{Sort, link, image, opens, closing, role, Piece, Marking, chosen, At, Paired, tail_piece}
use Rattle.marking.specs.ReadingRules.{Grammar}
use Rattle.marking.specs.Reading.{Match, alone, paired, taken, column, pair_column, same_sort, taken_column, extra, extend}
use Rattle.marking.proofs.Lists.{at_inside, at_seam_suc, at_split}
use Rattle.marking.proofs.Pairs.{LastBalanced}

-- ---- columns

column_at : {B : Type 0} (f : ℕ → ℕ → B) (k : ℕ) (c : ℕ → B) (i : ℕ) → column f k c i k ≡ c i
column_at f k c i = ap (λ (b : Bool). cond b (c i) (f i k)) (eq-eqb k k refl)

column_off : {B : Type 0} (f : ℕ → ℕ → B) (k : ℕ) (c : ℕ → B) (i j : ℕ) → j ≢ k → column f k c i j ≡ f i j
column_off f k c i j ne = ap (λ (b : Bool). cond b (c i) (f i j)) (ne_eqb j k ne)

same_sort_lem : (x y : Sort) → same_sort x y ≡ true → x ≡ y
same_sort_lem link link e = refl
same_sort_lem link image e = absurd (false≢true e)
same_sort_lem image link e = absurd (false≢true e)
same_sort_lem image image e = refl

sort_same : (x : Sort) → same_sort x x ≡ true
sort_same link = refl
sort_same image = refl

pub taken_column_lem : {T : Type 0} (x : Sort) (f : Match T) (i : ℕ) (t : T) → taken_column x f i ≡ some t → f ≡ taken x i t
taken_column_lem x alone i t e = absurd (none-ne-some t e)
taken_column_lem x (paired a) i t e = absurd (none-ne-some t e)
taken_column_lem {T} x (taken y a u) i t e = by (same_sort x y) (eqb i a) refl refl e
  where
    by : (v w : Bool) → same_sort x y ≡ v → eqb i a ≡ w → cond {A = Option T} v (cond {A = Option T} w (some u) none) none ≡ some t → taken y a u ≡ taken x i t
    by true true hv hw e' =
        let xy : x ≡ y = same_sort_lem x y hv in
        let ia : i ≡ a = eqb-true i a hw in
        let ut : u ≡ t = some-injective u t e' in
        cc
    by true false hv hw e' = absurd (none-ne-some t e')
    by false w hv hw e' = absurd (none-ne-some t e')

pub own_taken : {T : Type 0} (x : Sort) (a : ℕ) (t : T) → taken_column x (taken x a t) a ≡ some t
own_taken {T} x a t =
    ap (λ (v : Bool). cond {A = Option T} v (cond (eqb a a) (some t) none) none) (sort_same x)
    ∙ ap (λ (v : Bool). cond {A = Option T} v (some t) none) (eq-eqb a a refl)

-- ---- what the next piece comes to

-- i and the next piece q are a link or an image with the tail t
pub record TakenFound {T : Type 0} (g : Grammar T) (m : Marking T) (q : Piece) (x : Sort) (i : ℕ) (t : T) : Type 0 where
  pub no_link : x ≡ link → (i' j' : ℕ) → i < i' → m.links i' j' ≡ none
  pub open_piece : Piece
  pub open_at : At m.pieces i open_piece
  pub of_sort : open_piece.kind ≡ opens x
  pub reads : g.tail_at open_piece.end q.start ≡ some t

pub record FoundIs {T : Type 0} (g : Grammar T) (m : Marking T) (q : Piece) (f : Match T) : Type 0 where
  pub pair_found : (i : ℕ) → (pair_column f i ≡ true) ↔ ((role q.kind ≡ closing) × LastBalanced m.pieces i)
  pub taken_found : (x : Sort) (i : ℕ) (t : T) → (taken_column x f i ≡ some t) ↔ ((pair_column f i ≡ true) × TakenFound g m q x i t)

-- a pair of the longer list is one of the old list, or the next piece's
abbrev pub OldOrNew : {T : Type 0} → List Piece → Match T → ℕ → ℕ → Type 0
OldOrNew ps f i j = ((j < length ps) × Paired ps i j) ⊎ ((j ≡ length ps) × (pair_column f i ≡ true))

-- where a piece of the longer list stands
pub data Stands {T : Type 0} (g : Grammar T) (ps : List Piece) (q : Piece) (f : Match T) (k : ℕ) (x : Piece) : Type 0 where
  earlier : At ps k x → k < length ps → Stands g ps q f k x
  here : k ≡ length ps → x ≡ q → Stands g ps q f k x
  after : (y : Sort) (i : ℕ) (t : T) → f ≡ taken y i t → k ≡ suc (length ps) → x ≡ tail_piece q (g.length_of t) → Stands g ps q f k x

pub stands : {T : Type 0} (g : Grammar T) (ps : List Piece) (q : Piece) (f : Match T) (k : ℕ) (x : Piece) → At (ps ++ q ∷ extra g q f) k x → Stands g ps q f k x
stands {T} g ps q f k x h = by (at_split ps (q ∷ extra g q f) k x h)
  where
    further : (f' : Match T) → f ≡ f' → (d : ℕ) → k ≡ length ps + suc d → get_elem? (extra g q f') d ≡ some x → Stands g ps q f k x
    further alone e d kd a = absurd (none-ne-some x a)
    further (paired i) e d kd a = absurd (none-ne-some x a)
    further (taken y i t) e zero kd a = after y i t e (omega arith) (sym (some-injective (tail_piece q (g.length_of t)) x a))
    further (taken y i t) e (suc d) kd a = absurd (none-ne-some x a)

    new : (d : ℕ) → k ≡ length ps + d → get_elem? (q ∷ extra g q f) d ≡ some x → Stands g ps q f k x
    new zero kd a = here (omega arith) (sym (some-injective q x a))
    new (suc d) kd a = further f refl d kd a

    by : At ps k x ⊎ ((d : ℕ) × (k ≡ length ps + d) × (get_elem? (q ∷ extra g q f) d ≡ some x)) → Stands g ps q f k x
    by (inl a) = earlier a (at_inside ps k x a)
    by (inr t) = new t.0 t.1 t.2

pub at_tail : {T : Type 0} (g : Grammar T) (ps : List Piece) (q : Piece) (f : Match T) (x : Sort) (i : ℕ) (t : T) → f ≡ taken x i t
    → At (ps ++ q ∷ extra g q f) (suc (length ps)) (tail_piece q (g.length_of t))
at_tail {T} g ps q f x i t e = subst (λ (y : Match T). At (ps ++ q ∷ extra g q y) (suc (length ps)) (tail_piece q (g.length_of t))) (sym e) (at_seam_suc ps q (tail_piece q (g.length_of t)) [])

module _ {T : Type 0} (g : Grammar T) (m : Marking T) (q : Piece) (f : Match T) where
  ext_chosen : (x : Sort) (i j : ℕ) → chosen x (extend g m q f) i j ≡ column (chosen x m) (length m.pieces) (taken_column x f) i j
  unfolding extend
  ext_chosen link i j = refl
  ext_chosen image i j = refl

  pub ext_taken_old : (x : Sort) (i j : ℕ) → j ≢ length m.pieces → chosen x (extend g m q f) i j ≡ chosen x m i j
  ext_taken_old x i j ne = ext_chosen x i j ∙ column_off (chosen x m) (length m.pieces) (taken_column x f) i j ne

  pub ext_taken_new : (x : Sort) (i : ℕ) → chosen x (extend g m q f) i (length m.pieces) ≡ taken_column x f i
  ext_taken_new x i = ext_chosen x i (length m.pieces) ∙ column_at (chosen x m) (length m.pieces) (taken_column x f) i

  pub ext_pairs_old : (i j : ℕ) → j ≢ length m.pieces → (extend g m q f).pairs i j ≡ m.pairs i j
  unfolding extend
  ext_pairs_old i j ne = column_off m.pairs (length m.pieces) (pair_column f) i j ne

  pub ext_pairs_new : (i : ℕ) → (extend g m q f).pairs i (length m.pieces) ≡ pair_column f i
  unfolding extend
  ext_pairs_new i = column_at m.pairs (length m.pieces) (pair_column f) i
