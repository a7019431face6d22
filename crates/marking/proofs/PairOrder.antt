-- An opening piece is in one pair at most, and two pairs never cross: a piece that is paired further on waits all the way from its start.
use mathlib.Core.Path.{◌≡◌, sym, ap, ◌∙◌, subst}
use mathlib.Core.Logic.{◌⊎◌, inl, inr}
use mathlib.Core.Option.{Option, none, some, some-injective}
use mathlib.Core.List.{List, [], ◌∷◌, ◌++◌, append-nil}
use Prim.Native.Nat.{ℕ, zero, suc, ◌≤◌, ◌<◌}
use native.Mathlib.Decide.{dec_lt, ℕ_discrete}
use native.Mathlib.Omega.{arith}
use lib.ListN.{length, take, drop, get_elem?, length-take}
use lib.Seq.{drop-append-le, take-take}
use Rattle.marking.specs.Marking.{role, Piece, openings, closings, one_opening, one_closing, Paired}
use Rattle.marking.proofs.Lists.{get_elem?_take, to_list, take_suc?, split_at}
use Rattle.marking.proofs.Roles.{opening≢closing}
use Rattle.marking.proofs.Pairs.{partner, pair_inside, one_partner}
use Rattle.marking.proofs.Stack.{Waiting, last_waiting, waiting_closed, waiting_was, openings_append, closings_append}

module _ (ps : List Piece) where
  -- what waits at the point x waited at each earlier point y that it stands before
  waited : (x y i d : ℕ) → y ≤ x → i < length (take y ps) → Waiting d (take x ps) i → (e : ℕ) × Waiting e (take y ps) i
  waited zero y i d h l w = absurd (omega (arith, length-take y ps))
  waited (suc x) y i d h l w = by (ℕ_discrete y (suc x)) (λ (h' : y ≤ x) (d' : ℕ) (w' : Waiting d' (take x ps) i). waited x y i d' h' l w')
    where
      Earlier : Type 0
      Earlier = y ≤ x → (d' : ℕ) → Waiting d' (take x ps) i → (e : ℕ) × Waiting e (take y ps) i

      one_less : Earlier → y ≤ x → (o : Option Piece) → Waiting d (take x ps ++ to_list o) i → (e : ℕ) × Waiting e (take y ps) i
      one_less before h' none w' = before h' d (rw append-nil at w')
      one_less before h' (some q) w' =
          let z : (d' : ℕ) × Waiting d' (take x ps) i = waiting_was (take x ps) q d i (omega (arith, length-take y ps, length-take x ps)) w' in
          before h' z.0 z.1

      by : Dec (y ≡ suc x) → Earlier → (e : ℕ) × Waiting e (take y ps) i
      by (yes e) before = (d, subst (λ (z : ℕ). Waiting d (take z ps) i) (sym e) w)
      by (no ne) before = one_less before (omega arith) (get_elem? ps x) (subst (λ (l : List Piece). Waiting d l i) (take_suc? x ps) w)

  waits_at : (i j x : ℕ) → Paired ps i j → i < x → x ≤ j → (e : ℕ) × Waiting e (take x ps) i
  waits_at i j x p h h' = waited j x i 0 h' (omega (arith, length-take x ps, pair_inside p)) (last_waiting (take j ps) i (partner ps j i p))

  -- right after its closing piece an opening piece does not wait
  not_next : (i j d : ℕ) → Paired ps i j → Waiting d (take (suc j) ps) i → ⊥
  not_next i j d p w =
      let q : Piece = p.closed.piece in
      let e : take (suc j) ps ≡ take j ps ++ q ∷ [] = take_suc? j ps ∙ ap (λ (o : Option Piece). take j ps ++ to_list o) p.closed.at in
      let v : Waiting (suc d) (take j ps) i =
      waiting_closed (take j ps) q d i p.closed.as_role (omega (arith, length-take j ps, p.before, pair_inside p)) (subst (λ (l : List Piece). Waiting d l i) e w) in
      omega (arith, v.count, (last_waiting (take j ps) i (partner ps j i p)).count)

  never_again : (i j j' : ℕ) → Paired ps i j → Paired ps i j' → j < j' → ⊥
  never_again i j j' p p' h = let w : (e : ℕ) × Waiting e (take (suc j) ps) i = waits_at i j' (suc j) p' (omega (arith, p.before)) h in not_next i j w.0 p w.1

  pub one_closing_piece : (i j j' : ℕ) → Paired ps i j → Paired ps i j' → j ≡ j'
  one_closing_piece i j j' p p' = by (dec_lt j j') (dec_lt j' j)
    where
      by : Dec (j < j') → Dec (j' < j) → j ≡ j'
      by (yes h) d = absurd (never_again i j j' p p' h)
      by (no h) (yes h') = absurd (never_again i j' j p' p h')
      by (no h) (no h') = omega arith

  -- with i' between i and j, and j' after j, more opening than closing pieces would stand between i and j
  no_crossing : (i j i' j' : ℕ) → Paired ps i j → Paired ps i' j' → i < i' → i' < j → j < j' → ⊥
  no_crossing i j i' j' p p' h h' h'' =
      let q : Piece = p'.opened.piece in
      let w : (e : ℕ) × Waiting e (take i' ps) i = waits_at i j i' p h (omega arith) in
      let w' : (e : ℕ) × Waiting e (take j ps) i' = waits_at i' j' j p' h' (omega arith) in
      let s : take j ps ≡ take i' ps ++ q ∷ drop (suc i') (take j ps) =
      split_at (take j ps) i' q (get_elem?_take j i' ps h' ∙ p'.opened.at) ∙ ap (λ (l : List Piece). l ++ q ∷ drop (suc i') (take j ps)) (take-take i' j ps (omega arith)) in
      let e : drop (suc i) (take j ps) ≡ drop (suc i) (take i' ps) ++ q ∷ drop (suc i') (take j ps) =
      ap (drop (suc i)) s ∙ drop-append-le (suc i) (take i' ps) (q ∷ drop (suc i') (take j ps)) (omega (arith, length-take i' ps, pair_inside p)) in
      let a : one_opening (role q.kind) ≡ 1 = ap one_opening p'.opened.as_role in
      let b : one_closing (role q.kind) ≡ 0 = ap one_closing p'.opened.as_role in
      omega (
        arith,
        p.balanced,
        w.1.count,
        w'.1.count,
        a,
        b,
        ap openings e,
        ap closings e,
        openings_append (drop (suc i) (take i' ps)) (q ∷ drop (suc i') (take j ps)),
        closings_append (drop (suc i) (take i' ps)) (q ∷ drop (suc i') (take j ps)),
      )

  pub apart_or_nested : (i j i' j' : ℕ) → Paired ps i j → Paired ps i' j' → i < i' → (j < i') ⊎ (j' < j)
  apart_or_nested i j i' j' p p' h = by (dec_lt j i') (dec_lt j' j)
    where
      not_same : i' ≡ j → ⊥
      not_same e =
          let z : p'.opened.piece ≡ p.closed.piece = some-injective p'.opened.piece p.closed.piece (sym p'.opened.at ∙ ap (get_elem? ps) e ∙ p.closed.at) in
          opening≢closing (sym p'.opened.as_role ∙ ap (λ (y : Piece). role y.kind) z ∙ p.closed.as_role)

      not_shared : j ≡ j' → ⊥
      not_shared e = omega (arith, one_partner ps i i' j' (subst (λ (y : ℕ). Paired ps i y) e p) p')

      by : Dec (j < i') → Dec (j' < j) → (j < i') ⊎ (j' < j)
      by (yes z) d = inl z
      by (no z) (yes z') = inr z'
      by (no z) (no z') = crossing (ℕ_discrete i' j) (ℕ_discrete j j')
        where
          crossing : Dec (i' ≡ j) → Dec (j ≡ j') → (j < i') ⊎ (j' < j)
          crossing (yes e) d = absurd (not_same e)
          crossing (no ne) (yes e) = absurd (not_shared e)
          crossing (no ne) (no ne') = absurd (no_crossing i j i' j' p p' h (omega arith) (omega arith))
