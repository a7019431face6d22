-- The scan stops at the first bracket too many, exactly where the marking has one.
use mathlib.Core.Path.{◌≡◌, refl, sym, ap, ◌∙◌, subst, subst₂}
use mathlib.Core.Logic.{inl, inr}
use mathlib.Core.Bool.{Bool, true, false, false≢true}
use mathlib.Core.Option.{Option, none, some, some-injective, none-ne-some}
use mathlib.Core.List.{List, [], ◌∷◌, map}
use Prim.Native.Nat.{ℕ, zero, suc, ◌-◌, ◌≤◌, ◌<◌}
use native.Mathlib.Decide.{dec_le, dec_lt}
use native.Mathlib.Omega.{arith}
use lib.Dec.{ltb, leb}
use lib.ListN.{length, get_elem?, length-map}
use lib.Seq.{take-append_seam, take-length}
use borrow.Author.Tests.{ltb-true, ltb-false, leb-true, leb-false, lt-ltb, le-ltb}
use Rattle.marking.specs.Marking.{Role, nothing, opening, closing, trailing, role, Piece, Marking, Plays}
use Rattle.marking.specs.Open.{opened_before, paired_before, open_brackets, NeverOver, FirstOver}
use Rattle.marking.specs.ReadingRules.{Grammar}
use Rattle.marking.specs.Reading.{State, piece_at, extra, stack_by, extend, found, step, run, start, reading}
use Rattle.marking.specs.ReadingSpans.{scan_start, too_deep, over_at, over_within, overs, over}
use Rattle.marking.proofs.Lists.{at_seam, same_at}
use Rattle.marking.proofs.Roles.{trailing≢opening}
use Rattle.marking.proofs.Sound.{Sound}
use Rattle.marking.proofs.Next.{OldOrNew, ext_pairs_old, Stands, earlier, here, after, stands}
use Rattle.marking.proofs.Exists.{Inv, found_is, step_inv, start_inv}
use Rattle.marking.proofs.Simulates.{start_of, view, step_view}
use Rattle.marking.proofs.Finish.{over_deep, over_on, over_end}
use Rattle.marking.proofs.OpenList.{OpenAt, OpenAre, number_is}
use Rattle.marking.proofs.OpenStep.{open_step, longer, pairs_cases}
use Rattle.marking.proofs.Keeps.{Keeps, keeps_self, keeps_chain, number_on, number_kept, number_beyond}

-- ---- one step

module _ {T : Type 0} (g : Grammar T) (s : State T) (v : Inv g s) (h : s.place < g.size) where
  abbrev ps : List Piece
  ps = s.marking.pieces

  abbrev next : Piece
  next = piece_at g s.place

  step_keeps : Keeps s.marking (step g s).marking
  unfolding step extend
  step_keeps =
      record {
        size_grows = omega (arith, longer g v.sound s.marking s.place v.meets h (found g s) (found_is g s v));
        pieces_kept = take-length ps ∙ sym (take-append_seam ps (next ∷ extra g next (found g s)));
        pairs_kept = λ i j hj. ext_pairs_old g s.marking next (found g s) i j (omega arith);
      }

  pair_below : (i j : ℕ) → (step g s).marking.pairs i j ≡ true → j ≤ length ps
  unfolding step
  pair_below i j p = by (pairs_cases g v.sound s.marking s.place v.meets h (found g s) (found_is g s v) i j p)
    where
      by : OldOrNew ps (found g s) i j → j ≤ length ps
      by (inl t) = omega (arith, t.0)
      by (inr t) = omega (arith, t.0)

  opening_below : (i : ℕ) → Plays opening (step g s).marking.pieces i → i ≤ length ps
  unfolding step extend
  opening_below i o = by (stands g ps next (found g s) i o.piece o.at)
    where
      by : Stands g ps next (found g s) i o.piece → i ≤ length ps
      by (earlier a l) = omega arith
      by (here e e') = omega arith
      by (after y a t e e' e'') = absurd (trailing≢opening (ap (λ (y : Piece). role y.kind) (sym e'') ∙ o.as_role))

  -- between the new piece and its tail as many are open as after the tail
  open_between : (k : ℕ) → length ps < k → k ≤ length (step g s).marking.pieces → (xs : List ℕ)
      → OpenAre (step g s).marking (length (step g s).marking.pieces) xs → OpenAre (step g s).marking k xs
  open_between k lo hi xs a = record { each = λ i o. a.each i (on i o); no_others = λ i p. off i (a.no_others i p); falling = a.falling }
    where
      on : (i : ℕ) → OpenAt (step g s).marking k i → OpenAt (step g s).marking (length (step g s).marking.pieces) i
      on i o = record { bracket = o.bracket; before = omega (arith, o.before); unpaired = λ j hj p. o.unpaired j (omega (arith, pair_below i j p)) p }

      off : (i : ℕ) → OpenAt (step g s).marking (length (step g s).marking.pieces) i → OpenAt (step g s).marking k i
      off i o = record { bracket = o.bracket; before = omega (arith, opening_below i o.bracket); unpaired = λ j hj p. o.unpaired j (omega arith) p }

-- ---- the scan

abbrev Bounded : {T : Type 0} → ℕ → Marking T → Type 0
Bounded limit m = (k : ℕ) → k ≤ length m.pieces → open_brackets m k ≤ limit

abbrev OpenNow : {T : Type 0} → State T → Type 0
OpenNow s = OpenAre s.marking (length s.marking.pieces) s.stack

-- the step's piece comes to a full stack
abbrev over_now : {T : Type 0} → ℕ → Grammar T → State T → Bool
over_now limit g s = too_deep limit s.stack (role (g.kind_at s.place))

stack_bound : (limit k : ℕ) (st : List ℕ) (r : Role) → length st ≤ limit → too_deep limit st r ≡ false → length (stack_by k st r) ≤ limit
stack_bound limit k st nothing h e = h
stack_bound limit k st opening h e = omega (arith, leb-false)
stack_bound limit k [] closing h e = h
stack_bound limit k (x ∷ st) closing h e = omega arith
stack_bound limit k st trailing h e = h

deep_opening : (limit : ℕ) (st : List ℕ) (r : Role) → too_deep limit st r ≡ true → (r ≡ opening) × (limit ≤ length st)
deep_opening limit st nothing e = absurd (false≢true e)
deep_opening limit st opening e = (refl, leb-true limit (length st) e)
deep_opening limit st closing e = absurd (false≢true e)
deep_opening limit st trailing e = absurd (false≢true e)

deep_view : (limit : ℕ) (f : ℕ → ℕ) (st : List ℕ) (r : Role) → too_deep limit (map f st) r ≡ too_deep limit st r
deep_view limit f st nothing = refl
deep_view limit f st opening = ap (leb limit) (length-map st f)
deep_view limit f st closing = refl
deep_view limit f st trailing = refl

module _ {T : Type 0} (limit : ℕ) (g : Grammar T) (s : State T) (v : Inv g s) (h : s.place < g.size) (now : OpenNow s) (bd : Bounded limit s.marking) where
  step_open : (k : ℕ) → length s.marking.pieces < k → k ≤ length (step g s).marking.pieces → OpenAre (step g s).marking k (step g s).stack
  step_open k lo hi = open_between g s v h k lo hi (step g s).stack (open_step g s v h now)

  step_bounded : over_now limit g s ≡ false → Bounded limit (step g s).marking
  step_bounded e k hk = by (dec_le k (length s.marking.pieces))
    where
      deep : length (step g s).stack ≤ limit
      deep =
          unfold step in
          stack_bound limit (length s.marking.pieces) s.stack (role (g.kind_at s.place))
          (omega (arith, bd (length s.marking.pieces) (omega arith), number_is s.marking (length s.marking.pieces) s.stack now)) e

      by : Dec (k ≤ length s.marking.pieces) → open_brackets (step g s).marking k ≤ limit
      by (yes l) = omega (arith, bd k l, number_kept s.marking (step g s).marking (step_keeps g s v h) k l)
      by (no l) = omega (arith, deep, number_is (step g s).marking k (step g s).stack (step_open k (omega arith) hk))

  -- the bracket too many, in every marking that goes on from the step
  first_over : over_now limit g s ≡ true → (m : Marking T) → Keeps (step g s).marking m → FirstOver limit m (g.end_at s.place - 1)
  unfolding step extend
  first_over e m w =
      let d : (role (g.kind_at s.place) ≡ opening) × (limit ≤ length s.stack) = deep_opening limit s.stack (role (g.kind_at s.place)) e in
      let lg : length s.marking.pieces < length (step g s).marking.pieces = longer g v.sound s.marking s.place v.meets h (found g s) (found_is g s v) in
      let len : length (step g s).stack ≡ suc (length s.stack) = ap (λ (r : Role). length (stack_by (length s.marking.pieces) s.stack r)) d.0 in
      record {
        index = length s.marking.pieces;
        bracket =
            record {
              piece = piece_at g s.place;
              at = sym (same_at (length (step g s).marking.pieces) (step g s).marking.pieces m.pieces (length s.marking.pieces) w.pieces_kept lg)
                  ∙ at_seam s.marking.pieces (piece_at g s.place) (extra g (piece_at g s.place) (found g s));
              as_role = d.0;
            };
        place_is = omega (arith, v.sound.grows s.place h);
        too_many =
            omega (arith, d.1, len, number_on (step g s).marking m w (suc (length s.marking.pieces)) lg (step g s).stack (step_open (suc (length s.marking.pieces)) (omega arith) lg));
        none_before = λ k hk.
            omega (arith, bd k hk, number_kept s.marking m (keeps_chain s.marking (step g s).marking m (step_keeps g s v h) w) k hk);
      }

-- what the answer o says of the marking
pub record Told {T : Type 0} (limit : ℕ) (m : Marking T) (o : Option ℕ) : Type 0 where
  pub first : (p : ℕ) → o ≡ some p → FirstOver limit m p
  pub never : o ≡ none → NeverOver limit m

told_end : {T : Type 0} (limit : ℕ) (g : Grammar T) (s : State T) → Inv g s → Bounded limit s.marking → Told limit s.marking none
told_end limit g s v bd = record { first = λ p e. absurd (none-ne-some p e); never = λ e k. by k (dec_le k (length s.marking.pieces)) }
  where
    by : (k : ℕ) → Dec (k ≤ length s.marking.pieces) → open_brackets s.marking k ≤ limit
    by k (yes l) = bd k l
    by k (no l) = omega (arith, bd (length s.marking.pieces) (omega arith), number_beyond s.marking v.meets k (omega arith))

-- one round of the reading, by its test
run_on : (n : ℕ) {T : Type 0} (g : Grammar T) (s : State T) → s.place < g.size → run (suc n) g s ≡ run n g (step g s)
unfolding run
run_on n g s h = rw (lt-ltb s.place g.size h, run)

run_end : (n : ℕ) {T : Type 0} (g : Grammar T) (s : State T) → g.size ≤ s.place → run n g s ≡ s
unfolding run
run_end zero g s h = refl
run_end (suc n) g s h = rw (le-ltb s.place g.size h, run)

run_keeps : (n : ℕ) {T : Type 0} (g : Grammar T) (s : State T) → Inv g s → Keeps s.marking (run n g s).marking
unfolding run
run_keeps zero g s v = keeps_self s.marking
run_keeps (suc n) {T} g s v = by (λ (l : s.place < g.size). run_keeps n g (step g s) (step_inv g s v l).0) (ltb s.place g.size) refl
  where
    by : (s.place < g.size → Keeps (step g s).marking (run n g (step g s)).marking) → (x : Bool) → ltb s.place g.size ≡ x → Keeps s.marking (run (suc n) g s).marking
    by below true e =
        let l : s.place < g.size = ltb-true s.place g.size e in
        subst (λ (y : State T). Keeps s.marking y.marking) (sym (run_on n g s l))
        (keeps_chain s.marking (step g s).marking (run n g (step g s)).marking (step_keeps g s v l) (below l))
    by below false e = subst (λ (y : State T). Keeps s.marking y.marking) (sym (run_end (suc n) g s (ltb-false s.place g.size e))) (keeps_self s.marking)

told : (n limit : ℕ) {T : Type 0} (g : Grammar T) (s : State T) → Inv g s → OpenNow s → Bounded limit s.marking → Told limit (run n g s).marking (over_within limit n g (view s))
unfolding run over_within
told zero limit g s v now bd = told_end limit g s v bd
told (suc n) limit {T} g s v now bd =
    by
    (λ (l : s.place < g.size) (e : over_now limit g s ≡ false). told n limit g (step g s) (step_inv g s v l).0 (open_step g s v l now) (step_bounded limit g s v l now bd e))
    (ltb s.place g.size) (over_now limit g s) refl refl
  where
    Below : Type 0
    Below = (l : s.place < g.size) → over_now limit g s ≡ false → Told limit (run n g (step g s)).marking (over_within limit n g (view (step g s)))

    same : over_at limit g (view s) ≡ over_now limit g s
    same = deep_view limit (start_of s.marking.pieces) s.stack (role (g.kind_at s.place))

    by : Below → (x y : Bool) → ltb s.place g.size ≡ x → over_now limit g s ≡ y → Told limit (run (suc n) g s).marking (over_within limit (suc n) g (view s))
    by below true true e e' =
        let l : s.place < g.size = ltb-true s.place g.size e in
        let at : ℕ = g.end_at s.place - 1 in
        let f : FirstOver limit (run n g (step g s)).marking at = first_over limit g s v l now bd e' (run n g (step g s)).marking (run_keeps n g (step g s) (step_inv g s v l).0) in
        subst₂ (λ (y : State T) (o : Option ℕ). Told limit y.marking o) (sym (run_on n g s l)) (sym (over_deep limit g n (view s) l (same ∙ e')))
        (record {
          first = λ p ep. subst (λ (q : ℕ). FirstOver limit (run n g (step g s)).marking q) (some-injective at p ep) f;
          never = λ ep. absurd (none-ne-some at (sym ep));
        })
    by below true false e e' =
        let l : s.place < g.size = ltb-true s.place g.size e in
        subst₂ (λ (y : State T) (o : Option ℕ). Told limit y.marking o) (sym (run_on n g s l))
        (sym (over_on limit g n (view s) l (same ∙ e') ∙ ap (over_within limit n g) (step_view g s v))) (below l e')
    by below false y e e' =
        let l : g.size ≤ s.place = ltb-false s.place g.size e in
        subst₂ (λ (y : State T) (o : Option ℕ). Told limit y.marking o) (sym (run_end (suc n) g s l)) (sym (over_end limit g (suc n) (view s) l)) (told_end limit g s v bd)

-- ---- the whole scan

open_start : {T : Type 0} → OpenNow (start {T = T})
unfolding start
open_start = record { each = λ i o. absurd (none-ne-some o.bracket.piece o.bracket.at); no_others = λ i h. absurd (none-ne-some i h.1); falling = λ d i j p. absurd (none-ne-some i p) }

bounded_start : (T : Type 0) (limit : ℕ) → Bounded limit (start {T = T}).marking
unfolding start open_brackets opened_before paired_before
bounded_start T limit zero h = omega arith
bounded_start T limit (suc k) h = absurd (omega arith)

pub over_told : {T : Type 0} (limit : ℕ) (g : Grammar T) → Sound g → Told limit (reading g) (over limit g)
unfolding reading over overs scan_start start
over_told {T} limit g sd = told g.size limit g start (start_inv g sd) open_start (bounded_start T limit)

pub first_over_unique : {T : Type 0} (limit : ℕ) (m : Marking T) (p p' : ℕ) → FirstOver limit m p → FirstOver limit m p' → p ≡ p'
first_over_unique limit m p p' f f' = by (dec_lt f.index f'.index) (dec_lt f'.index f.index)
  where
    by : Dec (f.index < f'.index) → Dec (f'.index < f.index) → p ≡ p'
    by (yes h) d = absurd (omega (arith, f.too_many, f'.none_before (suc f.index) h))
    by (no h) (yes h') = absurd (omega (arith, f'.too_many, f.none_before (suc f'.index) h'))
    by (no h) (no h') =
        let e : f.index ≡ f'.index = omega arith in
        let q : f.bracket.piece ≡ f'.bracket.piece = some-injective f.bracket.piece f'.bracket.piece (sym f.bracket.at ∙ ap (get_elem? m.pieces) e ∙ f'.bracket.at) in
        let z : f.bracket.piece.end ≡ f'.bracket.piece.end = ap (λ (y : Piece). y.end) q in
        omega (arith, f.place_is, f'.place_is)
