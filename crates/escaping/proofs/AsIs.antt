-- Runs of bytes that are written as they are.
use Prim.Native.Nat.{ℕ, zero, suc, ◌+◌, ◌-◌, ◌≤◌, ◌<◌}
use native.Mathlib.Omega.{arith}
use mathlib.Core.Path.{◌≡◌, refl, sym, ap, ◌∙◌}
use mathlib.Core.List.{List, [], ◌∷◌, ◌++◌, flat_map}
use mathlib.Core.Bool.{Bool, true, false, true≢false, not, ◌||◌}
use borrow.Author.Tests.{ne_eqb, not-true}
use lib.ListN.{length, get_or, take, drop, length-drop}
use lib.Seq.{drop-drop, get_or-drop}
use lib.Dec.{eqb}
use Rattle.scan.specs.Byte.{within}
use Rattle.scan.proofs.Test.{by, neither}
use Rattle.scan.specs.Reading.{run, past, past_strides}
use Rattle.scan.proofs.Scan.{run_yes, run_no, run_fits, past_none}
use Rattle.scan.proofs.Strides.{told_apart, past_through}
use Rattle.escaping.specs.Escaping.{escaped}
use Rattle.escaping.specs.Reading.{as_is, clear, front, text_of}
use Rattle.escaping.proofs.Undone.{undone_byte, no_escape}

-- ---- the run at the front of l, and what a list gives on the page
module _ (test : ℕ → Bool) where
  run_each : (l : List ℕ) (i : ℕ) → i < run test l → test (get_or l i 0) ≡ true
  unfolding run
  run_each [] i h = absurd (omega arith)
  run_each (b ∷ l) zero h = by (test b) (λ e. e) (λ e. absurd (omega (arith, run_no test b l e)))
  run_each (b ∷ l) (suc i) h =
      by (test b) (λ e. run_each l i (omega (arith, run_yes test b l e))) (λ e. absurd (omega (arith, run_no test b l e)))

  module _ (give : List ℕ → List ℕ) (keeps : (b : ℕ) (l : List ℕ) → test b ≡ true → give (b ∷ l) ≡ b ∷ give l) where
    given : (l : List ℕ) → give l ≡ take (run test l) l ++ give (drop (run test l) l)
    unfolding run
    given [] = refl
    given (b ∷ l) = by (test b) (λ e. rw (run_yes test b l e) (keeps b l e ∙ ap (λ (x : List ℕ). b ∷ x) (given l))) (λ e. rw (run_no test b l e) refl)

  -- a loop that stands at i, and where the run from there on ends
  module _ (s : List ℕ) (i : ℕ) {r : ℕ} (e : r ≡ past test s i) where
    pub run_within : i ≤ length s → (i ≤ r) × (r ≤ length s)
    unfolding past
    run_within h = (omega arith, omega (arith, run_fits test (drop i s), length-drop i s))

    pub run_low : i ≤ r
    unfolding past
    run_low = omega arith

    pub run_size : r - i ≡ run test (drop i s)
    unfolding past
    run_size = omega arith

    pub each_passes : (j : ℕ) → i ≤ j → j < r → test (get_or s j 0) ≡ true
    unfolding past
    each_passes j h k = let z : i + (j - i) ≡ j = omega arith in rw (get_or-drop i s (j - i) 0, z) at (run_each (drop i s) (j - i) (omega arith))

    pub given_part : (give : List ℕ → List ℕ) → ((b : ℕ) (l : List ℕ) → test b ≡ true → give (b ∷ l) ≡ b ∷ give l) → give (drop i s) ≡ take (run test (drop i s)) (drop i s) ++ give (drop r s)
    unfolding past
    given_part give keeps = rw (e, ← drop-drop (run test (drop i s)) i s) (given give keeps (drop i s))

-- ---- bytes other than `mark` that are not escaped
module _ (mark : ℕ) where
  pub other : (b : ℕ) → as_is mark b ≡ true → (c : ℕ) → as_is mark c ≡ false → b ≡ c → ⊥
  other b h c f e = true≢false (sym h ∙ ap (as_is mark) e ∙ f)

  pub itself : (b : ℕ) → as_is mark b ≡ true → escaped b ≡ b ∷ []
  unfolding escaped
  itself b h =
      simp (
        ne_eqb b 38 (other b h 38 refl),
        ne_eqb b 60 (other b h 60 refl),
        ne_eqb b 62 (other b h 62 refl),
        ne_eqb b 34 (other b h 34 refl),
      )

  pub escaped_front : (l : List ℕ) → flat_map escaped (front mark l) ≡ front mark l
  unfolding flat_map run
  escaped_front [] = refl
  escaped_front (b ∷ l) =
      by (as_is mark b)
      (λ e. rw (run_yes (as_is mark) b l e, itself b e) (ap (λ (x : List ℕ). b ∷ x) (escaped_front l)))
      (λ e. rw (run_no (as_is mark) b l e) refl)

  -- what is put of a run that ends past its start, and of one that ends there
  pub front_taken : (s : List ℕ) (i : ℕ) {r : ℕ} → r ≡ past (as_is mark) s i → take (r - i) (drop i s) ≡ front mark (drop i s)
  front_taken s i e = rw (run_size (as_is mark) s i e) refl

  pub front_empty : (s : List ℕ) (i : ℕ) {r : ℕ} → r ≡ past (as_is mark) s i → r ≤ i → front mark (drop i s) ≡ []
  front_empty s i e h = let z : run (as_is mark) (drop i s) ≡ 0 = omega (arith, run_size (as_is mark) s i e) in rw z refl

  -- a run with a byte in it ends within the list
  pub front_inside : (s : List ℕ) (i : ℕ) {r : ℕ} → r ≡ past (as_is mark) s i → i < r → r ≤ length s
  unfolding past
  front_inside s i e h = omega (arith, run_fits (as_is mark) (drop i s), length-drop i s)

  -- nothing to pass; p is what a call answered of the byte b
  pub as_is_none : (s : List ℕ) (i : ℕ) {b : ℕ} {p : Bool} → b ≡ get_or s i 0 → p ≡ as_is mark b → not p ≡ true → i ≡ past (as_is mark) s i
  as_is_none s i {b} {p} q e k = past_none (as_is mark) s i (ap (as_is mark) (sym q) ∙ sym e ∙ not-true p k)

  clear_as_is : (b : ℕ) → clear mark b ≡ true → as_is mark b ≡ true
  clear_as_is b e =
      simp (
        told_apart (clear mark) b 38 e refl,
        told_apart (clear mark) b 60 e refl,
        told_apart (clear mark) b 62 e refl,
        told_apart (clear mark) b 34 e refl,
        (neither (within 34 38 b || within 60 62 b) (eqb b mark) (not-true (within 34 38 b || within 60 62 b || eqb b mark) e)).1,
      )

  pub as_is_strides : (s : List ℕ) (at : ℕ) {i : ℕ} → i ≡ past_strides (clear mark) s at → past (as_is mark) s i ≡ past (as_is mark) s at
  as_is_strides = past_through (clear mark) (as_is mark) clear_as_is

-- in text
pub no_backslash : (b : ℕ) → as_is 92 b ≡ true → b ≡ 92 → ⊥
no_backslash b h = other 92 b h 92 refl

pub text_keeps : (b : ℕ) (l : List ℕ) → as_is 92 b ≡ true → text_of (b ∷ l) ≡ b ∷ text_of l
unfolding flat_map
text_keeps b l h = rw (undone_byte b l (no_escape (b ∷ l) 0 (no_backslash b h)), itself 92 b h) refl
