-- No run that leaves a parenthesis open is read to its end: an opening parenthesis that is marked stands in it.
use Prim.Native.Nat.{ℕ, ◌+◌, ◌≤◌, ◌<◌}
use native.Mathlib.Numerals.{add-one}
use native.Mathlib.Omega.{arith}
use mathlib.Core.Path.{◌≡◌, refl, sym, ap, ◌∙◌}
use mathlib.Core.List.{List, [], ◌∷◌}
use mathlib.Core.Bool.{Bool, true, false, not, ◌&&◌}
use borrow.Author.Tests.{eqb-true, eqb-false}
use lib.ListN.{get_or, drop}
use lib.Dec.{eqb}
use Rattle.scan.proofs.Test.{by, and_right}
use Rattle.scan.specs.Byte.{punctuation, escapes}
use Rattle.scan.specs.Reading.{bare, scan}
use Rattle.target.specs.Target.{control}
use Rattle.target.specs.Reading.{depth_after, halts, raw_from, raw_run}
use Rattle.parens.specs.Unclosed.{odd_after, slashed, closers_before, closers, unclosed, unclosed_at}
use Rattle.parens.proofs.Slashes.{inside_next}
use Rattle.parens.proofs.LeftOpen.{state, pass, halt, same_halts, same_depth}
use Rattle.parens.proofs.Parts.{opened}

-- one stands from place `from` on and before place `to`
pub record OpenIn (s : List ℕ) (from to : ℕ) : Type 0 where
  pub place : ℕ
  pub low : from ≤ place
  pub high : place < to
  pub unclosed : unclosed_at s place ≡ true

-- a run does not end before it starts
forward : (l : List ℕ) (at d : ℕ) (inside : Bool) → at ≤ (raw_from l (state at inside d)).end
unfolding scan
forward [] at d inside = omega arith
forward (b ∷ l) at d inside =
    by (halts d b inside) (λ h. rw (halt b l at d inside h) (omega arith))
    (λ h. rw (pass b l at d inside h refl refl) (omega (arith, forward l (at + 1) (depth_after d b inside) (not inside && escapes (b ∷ l)))))

-- one byte that is no such parenthesis: still as many closing ones follow as are open
enough : (c d b : ℕ) (odd : Bool) → control b ≡ false → halts d b odd ≡ false → unclosed c b odd ≡ false → d ≤ closers_before c b odd → depth_after d b odd ≤ c
unfolding closers_before depth_after
enough c d b odd n g u h =
    by (bare 41 b odd)
    (λ e. let q = rw (n, e) at h in simp e (omega arith))
    (λ e. by (bare 40 b odd)
    (λ o. let q = rw (n, e, o) at h in let z = eqb-false c 0 (rw o at u) in simp (e, o) (omega arith))
    (λ o. let q = rw (n, e, o) at h in simp (e, o) (omega arith)))

-- a run that ends with as many closing ones left as are open leaves none open
halts_flat : (d b : ℕ) (odd : Bool) → control b ≡ false → halts d b odd ≡ true → d ≡ 0
halts_flat d b odd n h = eqb-true d 0 (and_right (bare 41 b odd) (eqb d 0) (rw n at h))

no_closers : (c b : ℕ) (odd : Bool) → control b ≡ true → closers_before c b odd ≡ 0
unfolding closers_before
no_closers c b odd e = simp e

module _ (s : List ℕ) where
  abbrev Somewhere : List ℕ → ℕ → ℕ → Type 0
  Somewhere l i d =
      d ≤ closers (slashed s i) l → 0 < (raw_from l (state i (slashed s i && punctuation (get_or l 0 0)) d)).depth
      → OpenIn s i (raw_from l (state i (slashed s i && punctuation (get_or l 0 0)) d)).end

  module _ (b : ℕ) (l : List ℕ) (i : ℕ) (eb : b ≡ get_or s i 0) (el : l ≡ drop (i + 1) s) where
    next_odd : odd_after (slashed s i) b ≡ slashed s (i + 1)
    unfolding slashed
    next_odd = ap (odd_after (slashed s i)) eb ∙ sym (ap (slashed s) (add-one i))

    here : unclosed (closers (odd_after (slashed s i) b) l) b (slashed s i) ≡ unclosed_at s i
    unfolding slashed
    here = rw (eb, el, add-one i)

    after : (d : ℕ) → halts d b (slashed s i) ≡ false
        → raw_from (b ∷ l) (state i (slashed s i && punctuation b) d) ≡ raw_from l (state (i + 1) (slashed s (i + 1) && punctuation (get_or l 0 0)) (depth_after d b (slashed s i)))
    after d x =
        pass b l i d (slashed s i && punctuation b) (same_halts d b (slashed s i) ∙ x) (inside_next (slashed s i) b l) (same_depth d b (slashed s i))
        ∙ ap (λ (o : Bool). raw_from l (state (i + 1) (o && punctuation (get_or l 0 0)) (depth_after d b (slashed s i)))) next_odd

    one : (d : ℕ) → ((e : ℕ) → Somewhere l (i + 1) e) → Somewhere (b ∷ l) i d
    unfolding closers
    one d f h g =
        by (control b)
        (λ e.
        let k = rw (halt b l i d (slashed s i && punctuation b) (simp e)) at g in
        let no : ⊥ = omega (arith, no_closers (closers (odd_after (slashed s i) b) l) b (slashed s i) e) in
        absurd no)
        (λ e. by (halts d b (slashed s i))
        (λ x.
        let k = rw (halt b l i d (slashed s i && punctuation b) (same_halts d b (slashed s i) ∙ x)) at g in
        let no : ⊥ = omega (arith, halts_flat d b (slashed s i) e x) in
        absurd no)
        (λ x. by (unclosed (closers (odd_after (slashed s i) b) l) b (slashed s i))
        (λ u.
        rw (after d x)
        (record {
          place = i;
          low = omega arith;
          high = omega (arith, forward l (i + 1) (depth_after d b (slashed s i)) (slashed s (i + 1) && punctuation (get_or l 0 0)));
          unclosed = sym here ∙ u;
        }))
        (λ u.
        let r = f (depth_after d b (slashed s i)) (rw next_odd at (enough (closers (odd_after (slashed s i) b) l) d b (slashed s i) e x u h)) (rw (after d x) at g) in
        rw (after d x) (record { place = r.place; low = omega (arith, r.low); high = r.high; unclosed = r.unclosed }))))

  somewhere : (l : List ℕ) (i d : ℕ) → l ≡ drop i s → Somewhere l i d
  unfolding closers scan
  somewhere [] i d w = λ h g. let no : ⊥ = omega arith in absurd no
  somewhere (b ∷ l) i d w = let (eb, el) = opened s b l i w in one b l i eb el d (λ e. somewhere l (i + 1) e el)

  -- a run from a place before which no backslash stands
  pub open_in_run : (at : ℕ) → slashed s at ≡ false → 0 < (raw_run (drop at s) at).depth → OpenIn s at (raw_run (drop at s) at).end
  unfolding raw_run
  open_in_run at e g = (rw e at (somewhere (drop at s) at 0 refl (omega arith))) g
