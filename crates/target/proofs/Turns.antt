-- The ways through a turn of the two loops: each premise is a fact that the code has there.
use Prim.Native.Nat.{ℕ, ◌+◌, ◌≤◌, ◌<◌, max}
use native.Mathlib.Omega.{arith}
use mathlib.Core.Path.{◌≡◌, refl, ap, ◌∙◌}
use mathlib.Core.List.{List, []}
use mathlib.Core.Bool.{Bool, true, false, not, ◌&&◌, ◌||◌}
use lib.ListN.{length, get_or, drop, drop_of_length-le, length-drop}
use lib.Dec.{eqb, ltb}
use borrow.Author.Tests.{eq-eqb, eqb-false, ltb-true, ltb-false}
use Rattle.scan.specs.Byte.{blank, escapes}
use Rattle.scan.specs.Reading.{bare, stop, next, scan}
use Rattle.scan.proofs.Test.{by, neither}
use Rattle.scan.proofs.Scan.{at_cons, ends}
use Rattle.target.specs.declared.Run.{Run}
use Rattle.target.proofs.Space.{space_run_fits}
use Rattle.target.specs.Target.{control}
use Rattle.target.specs.Reading.{space_from, space_run, Running, ended, depth_after, halts, raw_step, raw_run, step_to, run_from, run_to}

-- ---- the longest run
module _ (t : Running) (b : ℕ) (s : List ℕ) where
  pub halted : halts t.depth b t.inside ≡ true → raw_step t b s ≡ stop (ended t)
  unfolding raw_step
  halted h = simp h

  pub passed : {k : Bool} {e : ℕ} → halts t.depth b t.inside ≡ false → k ≡ escapes s → e ≡ depth_after t.depth b t.inside
      → raw_step t b s ≡ next (record { at = t.at + 1; inside = not t.inside && k; depth = e })
  unfolding raw_step
  passed h k e = simp (h, k, e)

-- the same where marks give the run up
module _ (marks : List Bool) (t : Running) (b : ℕ) (s : List ℕ) where
  pub halted_to : halts t.depth b t.inside ≡ true → step_to marks t b s ≡ stop (ended t)
  unfolding step_to
  halted_to h = simp h

  pub given_up : {v : Bool} → halts t.depth b t.inside ≡ false → b ≡ 40 → v ≡ get_or marks t.at false → v ≡ true → step_to marks t b s ≡ stop (record { end = t.at; depth = 1 })
  unfolding step_to
  given_up h e m k = simp (h, ← m, k, eq-eqb b 40 e)

  pub passed_to : {k : Bool} {e : ℕ} → halts t.depth b t.inside ≡ false → (get_or marks t.at false && eqb b 40) ≡ false → k ≡ escapes s → e ≡ depth_after t.depth b t.inside
      → step_to marks t b s ≡ next (record { at = t.at + 1; inside = not t.inside && k; depth = e })
  unfolding step_to
  passed_to h m k e = simp (h, m, k, e)

-- the loop went to the end
pub run_whole : (marks : List Bool) (s : List ℕ) (at i d : ℕ) (inside : Bool) → run_from marks (drop i s) (record { at = i; inside = inside; depth = d }) ≡ run_to marks (drop at s) at
    → length s ≤ i → (at ≤ length s → i ≤ length s) → record { end = max at (length s); depth = d } ≡ run_to marks (drop at s) at
unfolding run_to scan
run_whole marks s at i d inside inv h k =
    let q : record { end = i; depth = d } ≡ run_to marks (drop at s) at = ends (step_to marks) ended s i {t = record { at = i; inside = inside; depth = d }} inv h refl in
    let place : max at (length s) ≡ i =
    by (ltb (length s) at)
    (λ l.
    let o = ltb-true (length s) at l in
    let f : record { end = i; depth = d } ≡ record { end = at; depth = 0 } = let n : length s ≤ at = omega arith in rw (drop_of_length-le s n) at q in
    omega (arith, ap (λ (r : Run). r.end) f))
    (λ l. let o = ltb-false (length s) at l in omega arith) in
    ap (λ (x : ℕ). record { end = x; depth = d }) place ∙ q

-- without marks it is the longest
pub unmarked : (s : List ℕ) (at : ℕ) → run_to [] s at ≡ raw_run s at
unfolding run_to raw_run step_to raw_step
unmarked s at = refl

-- a byte of the run closes only a parenthesis that is open
pub open_before : (d b : ℕ) (inside : Bool) → halts d b inside ≡ false → bare 41 b inside ≡ true → 0 < d
open_before d b inside h k =
    let n = eqb-false d 0 (rw k at (neither (control b) (bare 41 b inside && eqb d 0) h).1) in
    omega arith

-- a byte opens at most one parenthesis
pub deeper : (d b : ℕ) (inside : Bool) {e i : ℕ} → e ≡ depth_after d b inside → d ≤ i → e ≤ i + 1
unfolding depth_after
deeper d b inside {e} {i} q h =
    by (bare 41 b inside) (λ x. let r = rw x at q in omega arith)
    (λ x. by (bare 40 b inside) (λ y. let r = rw (x, y) at q in omega arith) (λ y. let r = rw (x, y) at q in omega arith))

-- ---- space
-- With the loop's invariant in hand, `i + space_from line (drop i s) ≡ r`; p is what a call answered
module _ (s : List ℕ) (i : ℕ) (line : Bool) {r : ℕ} (inv : i + space_from line (drop i s) ≡ r) where
  module _ (h : i < length s) {p : Bool} (e : p ≡ blank (get_or s i 0)) where
    pub space_on : (not p || line && eqb (get_or s i 0) 10) ≡ false → i + 1 + space_from (line || eqb (get_or s i 0) 10) (drop (i + 1) s) ≡ r
    unfolding space_from
    space_on k = let q = rw (at_cons s i h, space_from, ← e, k) at inv in omega arith

    pub space_stop : (not p || line && eqb (get_or s i 0) 10) ≡ true → i ≡ r
    unfolding space_from
    space_stop k = let q = rw (at_cons s i h, space_from, ← e, k) at inv in omega arith

-- the loop went to the end
pub space_whole : (s : List ℕ) (at i : ℕ) (line : Bool) → i + space_from line (drop i s) ≡ at + space_run (drop at s) → length s ≤ i → max at (length s) ≡ at + space_run (drop at s)
unfolding space_from
space_whole s at i line inv h = let q = rw (drop_of_length-le s h) at inv in omega (arith, space_run_fits (drop at s), length-drop at s)
