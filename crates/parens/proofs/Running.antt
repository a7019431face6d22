-- The run's state, and a destination that is given up at an opening parenthesis that nothing closes.
use Rattle.std.specs.Prelude.{None, Option}
use Prim.Native.Nat.{ℕ, suc, ◌+◌, ◌-◌, ◌≤◌, ◌<◌}
use native.Mathlib.Nat.{add-zero}
use native.Mathlib.Numerals.{add-one}
use native.Mathlib.Omega.{arith}
use mathlib.Core.Path.{◌≡◌, refl, sym, ap, ◌∙◌}
use mathlib.Core.List.{List, [], ◌∷◌}
use mathlib.Core.Bool.{Bool, true, false, cond, not, ◌&&◌}
use borrow.Author.Tests.{ne_eqb, eqb-true}
use lib.ListN.{length, get_or, drop, length-drop}
use lib.Seq.{get_or-drop}
use lib.Dec.{eqb}
use Rattle.scan.proofs.Test.{by, and_left, and_right}
use Rattle.scan.specs.Byte.{punctuation, escapes}
use Rattle.scan.specs.Reading.{bare, scan}
use Rattle.scan.proofs.Scan.{at_cons, stops, goes, ends}
use Rattle.target.specs.Reading.{depth_after, halts, raw_from, raw_run, step_to, run_from, run_to, judged, destination_of}
use Rattle.target.proofs.Turns.{halted, passed, deeper}
use Rattle.target.specs.declared.Run.{Run}
use Rattle.target.specs.declared.Part.{Part}
use Rattle.parens.specs.Unclosed.{odd_after, slashed, closers, unclosed_at, Marks}
use Rattle.parens.proofs.Slashes.{bare_with, inked, inside_next}
use Rattle.parens.proofs.LeftOpen.{state, left_open}
use Rattle.parens.proofs.Parts.{opened}

-- the state that the definition reaches at place i, where an escape is told by the backslashes before it
pub record Reached (s : List ℕ) (at i : ℕ) (inside : Bool) (depth : ℕ) : Type 0 where
  pub shallow : depth ≤ i
  pub second : inside ≡ (slashed s i && punctuation (get_or s i 0))
  pub run : raw_from (drop i s) (state i inside depth) ≡ raw_run (drop at s) at

pub begins : (s : List ℕ) (at : ℕ) → slashed s at ≡ false → Reached s at at false 0
unfolding raw_run
begins s at e = record { shallow = omega arith; second = rw e; run = refl }

first_byte : (s : List ℕ) (i : ℕ) → get_or (drop i s) 0 0 ≡ get_or s i 0
first_byte s i = rw (get_or-drop, add-zero)

module _ (s : List ℕ) (at i : ℕ) (inside : Bool) (depth : ℕ) (r : Reached s at i inside depth) where
  -- fewer closing ones follow than are open
  stays_open : closers (slashed s i) (drop i s) < depth → 0 < (raw_run (drop at s) at).depth
  stays_open h =
      let e : inside ≡ (slashed s i && punctuation (get_or (drop i s) 0 0)) = r.second ∙ ap (λ (n : ℕ). slashed s i && punctuation n) (sym (first_byte s i)) in
      rw (← r.run, e) (left_open (drop i s) i depth (slashed s i) h)

  module _ (h : i < length s) where
    next_second : (not inside && escapes (drop i s)) ≡ (slashed s (i + 1) && punctuation (get_or s (i + 1) 0))
    unfolding slashed
    next_second =
        ap (λ (x : Bool). not x && escapes (drop i s)) r.second
        ∙ ap (λ (l : List ℕ). not (slashed s i && punctuation (get_or s i 0)) && escapes l) (at_cons s i h)
        ∙ inside_next (slashed s i) (get_or s i 0) (drop (i + 1) s)
        ∙ ap (λ (n : ℕ). odd_after (slashed s i) (get_or s i 0) && punctuation n) (first_byte s (i + 1))
        ∙ ap (λ (n : ℕ). slashed s n && punctuation (get_or s (i + 1) 0)) (sym (add-one i))

    pub on : {k : Bool} {e : ℕ} → halts depth (get_or s i 0) inside ≡ false → k ≡ escapes (drop i s) → e ≡ depth_after depth (get_or s i 0) inside
        → Reached s at (i + 1) (not inside && k) e
    on g k e =
        record {
          shallow = deeper depth (get_or s i 0) inside e r.shallow;
          second = rw k next_second;
          run = goes _ _ s i r.run h (passed _ _ _ g k e);
        }

    pub halts_here : halts depth (get_or s i 0) inside ≡ true → judged at (record { end = i; depth = depth }) ≡ judged at (raw_run (drop at s) at)
    halts_here g = ap (judged at) (stops _ _ s i r.run h (halted _ _ _ g))

  pub ends_here : length s ≤ i → judged at (record { end = i; depth = depth }) ≡ judged at (raw_run (drop at s) at)
  ends_here h = ap (judged at) (ends _ _ s i r.run h refl)

left : (at e d : ℕ) → 0 < d → None ≡ judged at (record { end = e; depth = d })
unfolding judged
left at e d h = by (eqb e at) (λ k. simp k) (λ k. simp (k, ne_eqb d 0 (λ z. omega arith)))

deepens : (d b : ℕ) (inside : Bool) → b ≡ 40 → bare 40 b inside ≡ true → depth_after d b inside ≡ d + 1
unfolding depth_after
deepens d b inside e k = rw (k, e) (by_inside inside)
  where
    by_inside : (x : Bool) → cond (bare 41 40 x) (d - 1) (d + 1) ≡ d + 1
    by_inside true = refl
    by_inside false = refl

-- at an opening parenthesis that nothing closes
open_here : (s : List ℕ) (at i : ℕ) (inside : Bool) (depth : ℕ) → unclosed_at s i ≡ true → Reached s at i inside depth → i < length s
    → halts depth (get_or s i 0) inside ≡ false → None ≡ judged at (raw_run (drop at s) at)
open_here s at i inside depth u r h g =
    let o : bare 40 (get_or s i 0) (slashed s i) ≡ true = and_left _ _ u in
    let b : get_or s i 0 ≡ 40 = eqb-true (get_or s i 0) 40 (and_right (not (slashed s i)) _ o) in
    let n : closers (slashed s (suc i)) (drop (suc i) s) ≡ 0 = eqb-true _ 0 (and_right (bare 40 (get_or s i 0) (slashed s i)) _ u) in
    let k : bare 40 (get_or s i 0) inside ≡ true =
    ap (bare 40 (get_or s i 0)) r.second ∙ bare_with 40 (get_or s i 0) (slashed s i) (punctuation (get_or s i 0)) (inked 40 (get_or s i 0) refl) ∙ o in
    let f : closers (slashed s (i + 1)) (drop (i + 1) s) < depth + 1 = rw add-one (omega (arith, n)) in
    left at (raw_run (drop at s) at).end (raw_run (drop at s) at).depth
    (stays_open s at (i + 1) (not inside && escapes (drop i s)) (depth + 1)
    (on s at i inside depth r h g refl (sym (deepens depth (get_or s i 0) inside b k))) f)

-- ---- the run that is given up at a mark is judged as the whole one
module _ (s : List ℕ) (m : List Bool) (at : ℕ) (t : Marks s 0 m) where
  pub given_up : (i : ℕ) (inside : Bool) (depth : ℕ) → Reached s at i inside depth → i < length s → halts depth (get_or s i 0) inside ≡ false → get_or m i false ≡ true
      → judged at (record { end = i; depth = 1 }) ≡ judged at (raw_run (drop at s) at)
  given_up i inside depth r h g e = sym (left at i 1 (omega arith)) ∙ open_here s at i inside depth (sym (t.marked i (omega arith) h) ∙ e) r h g

  from_here : (l : List ℕ) (i : ℕ) (inside : Bool) (depth : ℕ) → l ≡ drop i s → Reached s at i inside depth → judged at (run_from m l (state i inside depth)) ≡ judged at (raw_run (drop at s) at)
  unfolding scan step_to
  from_here [] i inside depth w r = ends_here s at i inside depth r (omega (arith, ap length w, length-drop i s))
  from_here (b ∷ l) i inside depth w r =
      let (eb, el) = opened s b l i w in
      let h : i < length s = omega (arith, ap length w, length-drop i s) in
      by (halts depth b inside)
      (λ g. simp g (halts_here s at i inside depth r h (rw eb at g)))
      (λ g. by (get_or m i false && eqb b 40)
      (λ k. simp (g, k) (given_up i inside depth r h (rw eb at g) (and_left (get_or m i false) (eqb b 40) k)))
      (λ k. simp (g, k) (from_here l (i + 1) (not inside && escapes (b ∷ l)) (depth_after depth b inside) el
      (on s at i inside depth r h (rw eb at g) (ap escapes w) (ap (λ (n : ℕ). depth_after depth n inside) eb)))))

  pub to_mark : slashed s at ≡ false → judged at (run_to m (drop at s) at) ≡ judged at (raw_run (drop at s) at)
  unfolding run_to
  to_mark e = from_here (drop at s) at false 0 refl (begins s at e)

-- a destination that does not start with `<`
pub unangled : (s : List ℕ) (at : ℕ) {b : ℕ} {p : Option Part} → b ≡ get_or s at 0 → (b ≡ 60 → ⊥) → p ≡ judged at (raw_run (drop at s) at) → p ≡ destination_of (drop at s) at
unfolding destination_of
unangled s at {b} eb n q = simp (get_or-drop, add-zero, ← eb, ne_eqb b 60 n, q)

-- a run that leaves a parenthesis open
pub left_over : (s : List ℕ) (at : ℕ) {b : ℕ} (r : Run) → b ≡ get_or s at 0 → (b ≡ 60 → ⊥) → judged at r ≡ judged at (raw_run (drop at s) at) → (r.depth ≡ 0 → ⊥)
    → None ≡ destination_of (drop at s) at
left_over s at r eb n q d = unangled s at eb n (left at r.end r.depth (omega arith) ∙ q)
