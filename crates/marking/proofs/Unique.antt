-- At most one marking meets the conditions.
use mathlib.Core.Path.{◌≡◌, refl, sym, ap, ◌∙◌, subst, fun_ext}
use mathlib.Core.Logic.{◌≢◌, ◌⊎◌, inl, inr}
use mathlib.Core.Bool.{Bool, true, false}
use mathlib.Core.Option.{Option, none, some, some-injective, none-ne-some}
use mathlib.Core.List.{List}
use Prim.Native.Nat.{ℕ, zero, suc, ◌<◌}
use native.Mathlib.Nat.{not-suc-le-zero}
use native.Mathlib.Omega.{arith}
use lib.ListN.{take, get_elem?}
use Rattle.marking.specs.Marking.{Sort, link, image, Rules, Role, nothing, opening, closing, trailing, role, Piece, Marking, chosen, At, Plays, Paired, tail_piece, FollowsTaken, HasTail, Meets}
use Rattle.marking.specs.ReadingRules.{Grammar, Computed}
use Rattle.marking.proofs.Lists.{take_step, same_at, same_list}
use Rattle.marking.proofs.Roles.{nothing≢trailing, opening≢trailing, closing≢trailing}
use Rattle.marking.proofs.Tiles.{reach, tiles_start, tiles_stop}
use Rattle.marking.proofs.Pairs.{paired_local, Taken, taken_are, taken_pair}
use Rattle.marking.proofs.Sound.{rules_of}

-- the tail of a pair depends on the pieces up to it only
pub tail_local : {T : Type 0} (r r' : Rules T) (x : Sort) (k : ℕ) (ps ps' : List Piece) (i j : ℕ) (t : T) → ((o s : ℕ) → r.TailAt o s t → r'.TailAt o s t)
    → take k ps ≡ take k ps' → i < k → j < k → HasTail r x ps i j t → HasTail r' x ps' i j t
tail_local r r' x k ps ps' i j t same e hi hj c =
    record {
      open_piece = c.open_piece;
      close_piece = c.close_piece;
      open_at = sym (same_at k ps ps' i e hi) ∙ c.open_at;
      close_at = sym (same_at k ps ps' j e hj) ∙ c.close_at;
      of_sort = c.of_sort;
      reads = same c.open_piece.end c.close_piece.start c.reads;
    }

-- ---- the links and images of the first pieces

pub none_of : {T : Type 0} (o : Option T) → ((t : T) → o ≡ some t → ⊥) → o ≡ none
none_of none f = refl
none_of (some t) f = absurd (f t refl)

pub not_both : {T : Type 0} {o : Option T} {t : T} → o ≡ none → o ≡ some t → ⊥
not_both {t = t} p q = none-ne-some t (sym p ∙ q)

same_taken : (b : ℕ) {T : Type 0} (g : Grammar T) (m m' : Marking T) → Meets (rules_of g) m → Meets (rules_of g) m' → (k : ℕ) → take k m.pieces ≡ take k m'.pieces
    → (x : Sort) (i j : ℕ) (t : T) → j < b → j < k → chosen x m i j ≡ some t → chosen x m' i j ≡ some t
same_taken zero g m m' c c' k e x i j t hb hk l = absurd (not-suc-le-zero hb)
same_taken (suc b) g m m' c c' k e x i j t hb hk l =
    let d : Taken (rules_of g) x m i j t = (taken_are c x i j t).0 l in
    let p : Paired m.pieces i j = taken_pair c x i j t l in
    let ij : i < j = p.before in
    (taken_are c' x i j t).1
    (record {
      paired = (c'.pairs_are i j).1 (paired_local k m.pieces m'.pieces i j e hk p);
      no_link_between = λ xl i' j' hi hj.
          none_of (m'.links i' j') (λ t' l'. not_both (d.no_link_between xl i' j' hi hj) (same_taken b g m' m c' c k (sym e) link i' j' t' (omega arith) (omega arith) l'));
      has_tail = tail_local (rules_of g) (rules_of g) x k m.pieces m'.pieces i j t (λ o s h. h) e (omega arith) hk d.has_tail;
    })

-- ---- the next piece

is_trailing : (r : Role) → (r ≡ trailing) ⊎ (r ≢ trailing)
is_trailing nothing = inr nothing≢trailing
is_trailing opening = inr opening≢trailing
is_trailing closing = inr closing≢trailing
is_trailing trailing = inl refl

piece_eq : {T : Type 0} (g : Grammar T) (q q' : Piece) → Computed g q → Computed g q' → q.start ≡ q'.start → q ≡ q'
piece_eq g q q' s s' e = λ i. record { kind = k i; start = e i; end = f i }
  where
    k : q.kind ≡ q'.kind
    k = s.kind_is ∙ ap g.kind_at e ∙ sym s'.kind_is

    f : q.end ≡ q'.end
    f = s.end_is ∙ ap g.end_at e ∙ sym s'.end_is

module _ {T : Type 0} (g : Grammar T) where
  next_tail : (m m' : Marking T) → Meets (rules_of g) m → Meets (rules_of g) m' → (k : ℕ) → take k m.pieces ≡ take k m'.pieces
      → (q : Piece) → At m.pieces k q → role q.kind ≡ trailing → At m'.pieces k q
  next_tail m m' c c' k e q at r =
      let f : FollowsTaken m k = c.no_other_tails k q at r in
      let j : ℕ = f.to in
      let n : k ≡ suc j = omega (arith, f.next) in
      let h : j < k = omega arith in
      let d : Plays closing m.pieces j = (taken_pair c f.sort f.from j f.with_tail f.taken).closed in
      let l : chosen f.sort m' f.from j ≡ some f.with_tail = same_taken k g m m' c c' k e f.sort f.from j f.with_tail h h f.taken in
      let x : Piece = tail_piece d.piece (g.length_of f.with_tail) in
      let u : At m.pieces (suc j) x = c.tails f.sort f.from j f.with_tail d.piece f.taken d.at in
      let v : At m'.pieces (suc j) x = c'.tails f.sort f.from j f.with_tail d.piece l (sym (same_at k m.pieces m'.pieces j e h) ∙ d.at) in
      ap (get_elem? m'.pieces) n ∙ v ∙ sym u ∙ ap (get_elem? m.pieces) (sym n) ∙ at

  next : (m m' : Marking T) → Meets (rules_of g) m → Meets (rules_of g) m' → (k : ℕ) → take k m.pieces ≡ take k m'.pieces
      → (q : Piece) → At m.pieces k q → At m'.pieces k q
  next m m' c c' k e q at = go (is_trailing (role q.kind))
    where
      place : q.start ≡ reach 0 (take k m'.pieces)
      place = tiles_start 0 g.size m.pieces k q c.tiled at ∙ ap (reach 0) e

      other : Computed g q → (o : Option Piece) → get_elem? m'.pieces k ≡ o → o ≡ some q
      other s none e' = absurd (let z : reach 0 (take k m'.pieces) ≡ g.size = tiles_stop 0 g.size m'.pieces k c'.tiled e' in omega (arith, s.inside, place))
      other s (some q') e' = ap {B = Option Piece} some (by (is_trailing (role q'.kind)))
        where
          by : (role q'.kind ≡ trailing) ⊎ (role q'.kind ≢ trailing) → q' ≡ q
          by (inl r) = some-injective q' q (sym (next_tail m' m c' c k (sym e) q' e' r) ∙ at)
          by (inr r) = piece_eq g q' q (c'.kinds k q' e' r) s (tiles_start 0 g.size m'.pieces k q' c'.tiled e' ∙ sym place)

      go : (role q.kind ≡ trailing) ⊎ (role q.kind ≢ trailing) → At m'.pieces k q
      go (inl r) = next_tail m m' c c' k e q at r
      go (inr r) = other (c.kinds k q at r) (get_elem? m'.pieces k) refl

  next_same : (m m' : Marking T) → Meets (rules_of g) m → Meets (rules_of g) m' → (k : ℕ) → take k m.pieces ≡ take k m'.pieces
      → (o o' : Option Piece) → get_elem? m.pieces k ≡ o → get_elem? m'.pieces k ≡ o' → o ≡ o'
  next_same m m' c c' k e (some q) o' h h' = sym (next m m' c c' k e q h) ∙ h'
  next_same m m' c c' k e none none h h' = refl
  next_same m m' c c' k e none (some q) h h' = sym h ∙ next m' m c' c k (sym e) q h'

  takes : (m m' : Marking T) → Meets (rules_of g) m → Meets (rules_of g) m' → (k : ℕ) → take k m.pieces ≡ take k m'.pieces
  takes m m' c c' zero = refl
  takes m m' c c' (suc k) =
      let e : take k m.pieces ≡ take k m'.pieces = takes m m' c c' k in
      take_step k m.pieces m'.pieces e (next_same m m' c c' k e (get_elem? m.pieces k) (get_elem? m'.pieces k) refl refl)

-- ---- the whole marking

same_bool : (a b : Bool) → (a ≡ true → b ≡ true) → (b ≡ true → a ≡ true) → a ≡ b
same_bool true b f h = sym (f refl)
same_bool false true f h = h refl
same_bool false false f h = refl

same_option : {A : Type 0} (a b : Option A) → ((t : A) → a ≡ some t → b ≡ some t) → ((t : A) → b ≡ some t → a ≡ some t) → a ≡ b
same_option (some t) b f h = sym (f t refl)
same_option none (some t) f h = h t refl
same_option none none f h = refl

-- "Two markings are the same when they agree in all of that."
pub agreeing_are_same : {T : Type 0} (m m' : Marking T)
    → m.pieces ≡ m'.pieces → ((i j : ℕ) → m.pairs i j ≡ m'.pairs i j) → ((x : Sort) (i j : ℕ) → chosen x m i j ≡ chosen x m' i j) → m ≡ m'
agreeing_are_same m m' a b c = λ y.
    record {
      pieces = a y;
      pairs = fun_ext (λ i. fun_ext (λ j. b i j)) y;
      links = fun_ext (λ i. fun_ext (λ j. c link i j)) y;
      images = fun_ext (λ i. fun_ext (λ j. c image i j)) y;
    }

pub unique : {T : Type 0} (g : Grammar T) (m m' : Marking T) → Meets (rules_of g) m → Meets (rules_of g) m' → m ≡ m'
unique g m m' c c' = agreeing_are_same m m' pieces_same pairs_same chosen_same
  where
    pieces_same : m.pieces ≡ m'.pieces
    pieces_same = same_list m.pieces m'.pieces (takes g m m' c c')

    pairs_same : (i j : ℕ) → m.pairs i j ≡ m'.pairs i j
    pairs_same i j =
        same_bool (m.pairs i j) (m'.pairs i j)
        (λ p. (c'.pairs_are i j).1 (subst (λ (l : List Piece). Paired l i j) pieces_same ((c.pairs_are i j).0 p)))
        (λ p. (c.pairs_are i j).1 (subst (λ (l : List Piece). Paired l i j) (sym pieces_same) ((c'.pairs_are i j).0 p)))

    chosen_same : (x : Sort) (i j : ℕ) → chosen x m i j ≡ chosen x m' i j
    chosen_same x i j =
        same_option (chosen x m i j) (chosen x m' i j)
        (λ t. same_taken (suc j) g m m' c c' (suc j) (takes g m m' c c' (suc j)) x i j t (omega arith) (omega arith))
        (λ t. same_taken (suc j) g m' m c' c (suc j) (takes g m' m c' c (suc j)) x i j t (omega arith) (omega arith))
