-- The spans that the reading lists are those of its marking: each once, no others, in order of end.
use mathlib.Core.Path.{◌≡◌, refl, sym, ap, ◌∙◌, subst}
use mathlib.Core.Logic.{◌⊎◌, inl, inr}
use mathlib.Core.Bool.{Bool, cond, true, false, false≢true}
use mathlib.Core.Option.{Option, some, some-injective, none-ne-some}
use mathlib.Core.List.{List, [], ◌∷◌, ◌++◌}
use Prim.Native.Nat.{ℕ, zero, suc, ◌+◌, ◌≤◌, ◌<◌}
use native.Mathlib.Decide.{ℕ_discrete}
use native.Mathlib.Omega.{arith}
use lib.Dec.{eqb}
use lib.ListN.{length, get_elem?, get_or}
use borrow.Author.Tests.{eq-eqb}
use Rattle.marking.specs.Marking.{Kind, escape, code, plain, closes, tail, opens, closing, role, Piece, Marking, chosen}
use Rattle.scan.specs.Member.{In}
use Rattle.marking.specs.Spans.{Span, code_span, pair_span, span_end, EndsBefore, CodeOf, TakenOf, SpanOf, SpansAre}
use Rattle.marking.specs.ReadingRules.{Grammar}
use Rattle.marking.specs.Reading.{Match, alone, paired, taken, taken_column, piece_at, blank, extra, place_after, extend, is_code, new_spans}
use Rattle.marking.proofs.Lists.{at_inside, at_left, at_right, at_seam, at_back, at_split}
use Rattle.marking.proofs.Roles.{nothing≢closing, nothing≢trailing}
use Rattle.marking.proofs.Pairs.{pair_inside, taken_pair}
use Rattle.marking.proofs.Sound.{Sound, rules_of, MeetsTo}
use Rattle.marking.proofs.Next.{TakenFound, FoundIs, taken_column_lem, own_taken, ext_taken_old, ext_taken_new, Stands, earlier, here, after, stands}
use Rattle.marking.proofs.Found.{at_get_d, further}

pub record SpansTo {T : Type 0} (g : Grammar T) (b : ℕ) (m : Marking T) (xs : List (Span T)) : Type 0 where
  pub are : SpansAre (rules_of g) m xs
  pub ends : (x : Span T) → In x xs → span_end (rules_of g) x ≤ b

-- ---- a list of spans and at most one more, that ends later than all

append_in : {T : Type 0} (xs ys : List (Span T)) (x : Span T) → In x (xs ++ ys) → In x xs ⊎ In x ys
append_in xs ys x h = by (at_split xs ys h.0 x h.1)
  where
    by : (get_elem? xs h.0 ≡ some x) ⊎ ((d : ℕ) × (h.0 ≡ length xs + d) × (get_elem? ys d ≡ some x)) → In x xs ⊎ In x ys
    by (inl a) = inl (h.0, a)
    by (inr t) = inr (t.0, t.2)

module _ {T : Type 0} (g : Grammar T) (m m' : Marking T) (b b' : ℕ) (xs ys : List (Span T))
    (old : SpansTo g b m xs) (later : b < b')
    (cases : (x : Span T) → SpanOf m' x → SpanOf m x ⊎ In x ys)
    (keep : (x : Span T) → SpanOf m x → SpanOf m' x)
    (new : (x : Span T) → In x ys → SpanOf m' x)
    (new_end : (x : Span T) → In x ys → span_end (rules_of g) x ≡ b')
    (one : (k : ℕ) (x : Span T) → get_elem? ys (suc k) ≡ some x → ⊥) where
  order : (k : ℕ) (x y : Span T) → (get_elem? xs k ≡ some x) ⊎ ((d : ℕ) × (k ≡ length xs + d) × (get_elem? ys d ≡ some x))
      → (get_elem? xs (suc k) ≡ some y) ⊎ ((d : ℕ) × (suc k ≡ length xs + d) × (get_elem? ys d ≡ some y)) → EndsBefore (rules_of g) x y
  order k x y (inl a) (inl a') = old.are.in_order k x y a a'
  order k x y (inl a) (inr t) = omega (arith, old.ends x (k, a), new_end y (t.0, t.2))
  order k x y (inr t) (inl a') = absurd (omega (arith, t.1, at_inside xs (suc k) y a'))
  order k x y (inr t) (inr t') = absurd (one t.0 y (ap (get_elem? ys) (omega (arith, t.1, t'.1)) ∙ t'.2))

  appended : SpansTo g b' m' (xs ++ ys)
  appended =
      record {
        are =
            record {
              each = λ x s. put x (cases x s);
              no_others = λ x h. get x (append_in xs ys x h);
              in_order = λ k x y a a'. order k x y (at_split xs ys k x a) (at_split xs ys (suc k) y a');
            };
        ends = λ x h. end_of x (append_in xs ys x h);
      }
    where
      put : (x : Span T) → SpanOf m x ⊎ In x ys → In x (xs ++ ys)
      put x (inl s) = let h : In x xs = old.are.each x s in (h.0, at_left xs ys h.0 x h.1)
      put x (inr h) = (length xs + h.0, at_right xs ys h.0 x h.1)

      get : (x : Span T) → In x xs ⊎ In x ys → SpanOf m' x
      get x (inl h) = keep x (old.are.no_others x h)
      get x (inr h) = new x h

      end_of : (x : Span T) → In x xs ⊎ In x ys → span_end (rules_of g) x ≤ b'
      end_of x (inl h) = omega (arith, old.ends x h)
      end_of x (inr h) = omega (arith, new_end x h)

-- ---- the spans of one more piece

code_is : (k : Kind) → is_code k ≡ true → k ≡ code
code_is escape e = absurd (false≢true e)
code_is code e = refl
code_is plain e = absurd (false≢true e)
code_is closes e = absurd (false≢true e)
code_is tail e = absurd (false≢true e)
code_is (opens x) e = absurd (false≢true e)

only : {A : Type 0} (y x : A) (d : ℕ) → get_elem? (y ∷ []) d ≡ some x → y ≡ x
only y x zero h = some-injective y x h
only y x (suc d) h = absurd (none-ne-some x h)

module _ {T : Type 0} (g : Grammar T) (sd : Sound g) (m : Marking T) (b : ℕ) (c : MeetsTo g b m) (inside : b < g.size) (f : Match T) (fi : FoundIs g m (piece_at g b) f) where
  -- the next piece, what it adds, the marking then, and the spans that a piece which comes to f adds
  abbrev next : Piece
  next = piece_at g b

  abbrev added : List Piece
  added = next ∷ extra g next f

  abbrev grown : Marking T
  grown = extend g m next f

  abbrev fresh : Match T → List (Span T)
  fresh f = new_spans (λ i. get_or m.pieces i blank) next f

  keep_span : (x : Span T) → SpanOf m x → SpanOf grown x
  unfolding extend
  keep_span (code_span q) s = record { index = s.index; at = at_left m.pieces added s.index q s.at; kind_is_code = s.kind_is_code }
  keep_span (pair_span x o p t) s =
      let h : s.to < length m.pieces = at_inside m.pieces s.to p s.close_at in
      record {
        from = s.from;
        to = s.to;
        taken = ext_taken_old g m next f x s.from s.to (omega arith) ∙ s.taken;
        open_at = at_left m.pieces added s.from o s.open_at;
        close_at = at_left m.pieces added s.to p s.close_at;
      }

  no_code : (a : ℕ) → g.kind_at b ≡ code → (f : Match T) → FoundIs g m next f → (eqb a a ≡ true → role (g.kind_at b) ≡ closing) → ⊥
  no_code a e f fi' h = nothing≢closing (ap role (sym e) ∙ h (eq-eqb a a refl))

  code_new : (f : Match T) → FoundIs g m next f → g.kind_at b ≡ code → In (code_span next) (fresh f)
  code_new alone fi' e = (0, rw e)
  code_new (paired a) fi' e = absurd (no_code a e (paired a) fi' (λ h. ((fi'.pair_found a).0 h).0))
  code_new (taken x a t) fi' e = absurd (no_code a e (taken x a t) fi' (λ h. ((fi'.pair_found a).0 h).0))

  span_cases : (x : Span T) → SpanOf grown x → SpanOf m x ⊎ In x (fresh f)
  unfolding extend
  span_cases (code_span q) s = by (stands g m.pieces next f s.index q s.at)
    where
      by : Stands g m.pieces next f s.index q → CodeOf m q ⊎ In (code_span q) (fresh f)
      by (earlier a h) = inl (record { index = s.index; at = a; kind_is_code = s.kind_is_code })
      by (here e e') =
          inr (subst (λ (y : Piece). In (code_span y) (fresh f)) (sym e')
          (code_new f fi (ap (λ (y : Piece). y.kind) (sym e') ∙ s.kind_is_code)))
      by (after y i t e e' e'') = absurd (nothing≢trailing (ap role (sym s.kind_is_code) ∙ ap (λ (y : Piece). role y.kind) e''))
  span_cases (pair_span x o p t) s = by (ℕ_discrete s.to (length m.pieces))
    where
      by : Dec (s.to ≡ length m.pieces) → TakenOf m x o p t ⊎ In (pair_span x o p t) (fresh f)
      by (yes e) =
          let l : taken_column x f s.from ≡ some t = sym (ext_taken_new g m next f x s.from) ∙ ap (λ (k : ℕ). chosen x grown s.from k) (sym e) ∙ s.taken in
          let d : TakenFound g m next x s.from t = ((fi.taken_found x s.from t).0 l).1 in
          let eo : d.open_piece ≡ o = some-injective d.open_piece o (sym (at_left m.pieces added s.from d.open_piece d.open_at) ∙ s.open_at) in
          let eo' : get_or m.pieces s.from blank ≡ o = at_get_d m.pieces s.from d.open_piece d.open_at ∙ eo in
          let ep : next ≡ p = some-injective next p (sym (at_seam m.pieces next (extra g next f)) ∙ ap (get_elem? (m.pieces ++ added)) (sym e) ∙ s.close_at) in
          inr (subst (λ (y : Match T). In (pair_span x o p t) (fresh y)) (sym (taken_column_lem x f s.from t l))
          (0, ap (λ (y : Piece). some (pair_span x y next t)) eo' ∙ ap (λ (y : Piece). some (pair_span x o y t)) ep))
      by (no ne) =
          let l : chosen x m s.from s.to ≡ some t = sym (ext_taken_old g m next f x s.from s.to ne) ∙ s.taken in
          let h : s.to < length m.pieces = pair_inside (taken_pair c x s.from s.to t l) in
          let h' : s.from < s.to = (taken_pair c x s.from s.to t l).before in
          inl (record {
            from = s.from;
            to = s.to;
            taken = l;
            open_at = sym (at_back m.pieces added s.from (omega arith)) ∙ s.open_at;
            close_at = sym (at_back m.pieces added s.to h) ∙ s.close_at;
          })

  span_new : (x : Span T) → In x (fresh f) → SpanOf grown x
  unfolding extend
  span_new x h = by f refl h.1
    where
      plain_or_code : (v : Bool) → is_code (g.kind_at b) ≡ v → get_elem? (cond {A = List (Span T)} v (code_span next ∷ []) []) h.0 ≡ some x → SpanOf grown x
      plain_or_code true e a =
          subst (λ (y : Span T). SpanOf grown y) (only (code_span next) x h.0 a)
          (record { index = length m.pieces; at = at_seam m.pieces next (extra g next f); kind_is_code = code_is (g.kind_at b) e })
      plain_or_code false e a = absurd (none-ne-some x a)

      by : (f' : Match T) → f ≡ f' → get_elem? (fresh f') h.0 ≡ some x → SpanOf grown x
      by alone e a = plain_or_code (is_code (g.kind_at b)) refl a
      by (paired i) e a = absurd (none-ne-some x a)
      by (taken y i t) e a =
          let l : taken_column y f i ≡ some t = ap (λ (z : Match T). taken_column y z i) e ∙ own_taken y i t in
          let d : TakenFound g m next y i t = ((fi.taken_found y i t).0 l).1 in
          subst (λ (z : Span T). SpanOf grown z) (only (pair_span y (get_or m.pieces i blank) next t) x h.0 a)
          (record {
            from = i;
            to = length m.pieces;
            taken = ext_taken_new g m next f y i ∙ l;
            open_at = at_left m.pieces added i (get_or m.pieces i blank) (d.open_at ∙ ap {B = Option Piece} some (sym (at_get_d m.pieces i d.open_piece d.open_at)));
            close_at = at_seam m.pieces next (extra g next f);
          })

  one_span : (f : Match T) (k : ℕ) (x : Span T) → get_elem? (fresh f) (suc k) ≡ some x → ⊥
  one_span alone k x a = by (is_code (g.kind_at b)) a
    where
      by : (v : Bool) → get_elem? (cond {A = List (Span T)} v (code_span next ∷ []) []) (suc k) ≡ some x → ⊥
      by true a' = none-ne-some x a'
      by false a' = none-ne-some x a'
  one_span (paired i) k x a = none-ne-some x a
  one_span (taken y i t) k x a = none-ne-some x a

  span_end_lem : (f : Match T) (x : Span T) → In x (fresh f) → span_end (rules_of g) x ≡ place_after g next f
  span_end_lem alone x h = by (is_code (g.kind_at b)) h.1
    where
      by : (v : Bool) → get_elem? (cond {A = List (Span T)} v (code_span next ∷ []) []) h.0 ≡ some x → span_end (rules_of g) x ≡ g.end_at b
      by true a = ap (span_end (rules_of g)) (sym (only (code_span next) x h.0 a))
      by false a = absurd (none-ne-some x a)
  span_end_lem (paired i) x h = absurd (none-ne-some x h.1)
  span_end_lem (taken y i t) x h = ap (span_end (rules_of g)) (sym (only (pair_span y (get_or m.pieces i blank) next t) x h.0 h.1))

  pub spans_extended : (xs : List (Span T)) → SpansTo g b m xs
      → SpansTo g (place_after g next f) grown (xs ++ fresh f)
  spans_extended xs old =
      appended g m grown b (place_after g next f) xs (fresh f)
      old (further g sd m b c inside f fi).0 span_cases keep_span span_new (span_end_lem f) (one_span f)
