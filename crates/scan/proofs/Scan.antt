-- Reading a list from the front: one turn, what a loop's turn shows, what every answer has, and runs of bytes that pass a test.
use Prim.Native.Nat.{ℕ, suc, ◌+◌, ◌≤◌, ◌<◌, max}
use native.Mathlib.Omega.{arith}
use native.Mathlib.Numerals.{add-one}
use mathlib.Core.Bool.{Bool, true, false, not}
use mathlib.Core.Path.{◌≡◌, refl, sym, ap, ◌∙◌}
use mathlib.Core.List.{List, [], ◌∷◌}
use borrow.Author.Tests.{ltb-true, ltb-false, not-true, not-false}
use lib.ListN.{length, get_or, drop, drop_of_length-le, get_or-eq_default, length-drop}
use lib.Seq.{drop-cons}
use lib.Dec.{ltb}
use Rattle.scan.specs.Reading.{Step, stop, next, on_step, scan, run, past}
use Rattle.scan.proofs.Test.{by}

-- what is left at an index within the list is the byte there and what is left after it
pub at_cons : (s : List ℕ) (i : ℕ) → i < length s → drop i s ≡ get_or s i 0 ∷ drop (i + 1) s
at_cons s i h = rw (add-one, drop-cons s i 0)

-- the same of an item of any type, where the item there is known
pub at_item : {A : Type 0} (s : List A) (i : ℕ) {x : A} → i < length s → x ≡ get_or s i x → drop i s ≡ x ∷ drop (i + 1) s
at_item s i {x} h is = rw (add-one, drop-cons s i x h) (ap (λ y. y ∷ drop (suc i) s) (sym is))

-- a byte other than 0 stands within the list
pub peek_inside : (s : List ℕ) (i : ℕ) → (get_or s i 0 ≡ 0 → ⊥) → i < length s
peek_inside s i n =
    by (ltb i (length s)) (ltb-true i (length s)) (λ e. absurd (n (get_or-eq_default s 0 (ltb-false i (length s) e))))

module _ {S A : Type 0} (step : S → ℕ → List ℕ → Step S A) (done : S → A) where
  -- one turn at index i
  pub scan_at : (s : List ℕ) (i : ℕ) (t : S) → i < length s → scan step done (drop i s) t ≡ on_step (step t (get_or s i 0) (drop i s)) (scan step done (drop (i + 1) s))
  unfolding scan
  scan_at s i t h = rw (at_cons s i h)

  -- With the loop's invariant in hand, `scan step done (drop i s) t ≡ r`: what a turn that answers, a turn that goes on, and the loop's end show
  pub stops : (s : List ℕ) (i : ℕ) {t : S} {a r : A} → scan step done (drop i s) t ≡ r → i < length s → step t (get_or s i 0) (drop i s) ≡ stop a → a ≡ r
  stops s i {t} inv h e = sym (scan_at s i t h ∙ ap (λ (x : Step S A). on_step x (scan step done (drop (i + 1) s))) e) ∙ inv

  pub goes : (s : List ℕ) (i : ℕ) {t t' : S} {r : A} → scan step done (drop i s) t ≡ r → i < length s → step t (get_or s i 0) (drop i s) ≡ next t' → scan step done (drop (i + 1) s) t' ≡ r
  goes s i {t} inv h e = sym (scan_at s i t h ∙ ap (λ (x : Step S A). on_step x (scan step done (drop (i + 1) s))) e) ∙ inv

  pub ends : (s : List ℕ) (i : ℕ) {t : S} {a r : A} → scan step done (drop i s) t ≡ r → length s ≤ i → done t ≡ a → a ≡ r
  unfolding scan
  ends s i {t} inv h e = sym e ∙ (rw (drop_of_length-le s h) at inv)

  -- a turn on a list that is written out
  pub scan_cons : (b : ℕ) (s : List ℕ) (t : S) {x : Step S A} → step t b (b ∷ s) ≡ x → scan step done (b ∷ s) t ≡ on_step x (scan step done s)
  unfolding scan
  scan_cons b s t e = rw e

-- ---- what every answer has: I holds of the state and of what is left, each turn keeps it or answers with P, and the end answers with P
abbrev pub Outcome : {S A : Type 0} → (S → List ℕ → Type 0) → (A → Type 0) → List ℕ → Step S A → Type 0
Outcome I P s (stop a) = P a
Outcome I P s (next t) = I t s

module _ {S A : Type 0} (step : S → ℕ → List ℕ → Step S A) (done : S → A) (I : S → List ℕ → Type 0) (P : A → Type 0) where
  after : (s : List ℕ) (x : Step S A) → Outcome I P s x → ((t : S) → I t s → P (scan step done s t)) → P (on_step x (scan step done s))
  after s (stop a) g k = g
  after s (next t) g k = k t g

  pub scan_holds : ((t : S) (b : ℕ) (s : List ℕ) → I t (b ∷ s) → Outcome I P s (step t b (b ∷ s))) → ((t : S) → I t [] → P (done t)) → (s : List ℕ) (t : S) → I t s → P (scan step done s t)
  unfolding scan
  scan_holds f g [] t i = g t i
  scan_holds f g (b ∷ s) t i = after s (step t b (b ∷ s)) (f t b s i) (λ u j. scan_holds f g s u j)

-- ---- the run of bytes at the front that pass a test
module _ {A : Type 0} (test : A → Bool) where
  pub run_yes : (b : A) (s : List A) → test b ≡ true → run test (b ∷ s) ≡ suc (run test s)
  unfolding run
  run_yes b s e = rw (e, run)

  pub run_no : (b : A) (s : List A) → test b ≡ false → run test (b ∷ s) ≡ 0
  unfolding run
  run_no b s e = rw (e, run)

  pub run_fits : (s : List A) → run test s ≤ length s
  unfolding run
  run_fits [] = omega arith
  run_fits (b ∷ s) = by (test b) (λ e. omega (arith, run_yes b s e, run_fits s)) (λ e. omega (arith, run_no b s e))

  -- With the loop's invariant in hand, `past test s i ≡ r`; x is the item at i, p is what a call answered of it
  pub passed_item : (s : List A) (i : ℕ) {x : A} {r : ℕ} {p : Bool} → past test s i ≡ r → i < length s → x ≡ get_or s i x → p ≡ test x → not p ≡ false → past test s (i + 1) ≡ r
  unfolding past
  passed_item s i inv h is e k = let q = rw (at_item s i h is, run_yes _ _ (sym e ∙ not-false _ k)) at inv in omega arith

  pub stopped_item : (s : List A) (i : ℕ) {x : A} {r : ℕ} {p : Bool} → past test s i ≡ r → i < length s → x ≡ get_or s i x → p ≡ test x → not p ≡ true → i ≡ r
  unfolding past
  stopped_item s i inv h is e k = let q = rw (at_item s i h is, run_no _ _ (sym e ∙ not-true _ k)) at inv in omega arith

  pub past_end : (s : List A) (i : ℕ) {r : ℕ} → past test s i ≡ r → length s ≤ i → i ≡ r
  unfolding past run
  past_end s i inv h = let q = rw (drop_of_length-le s h) at inv in omega arith

  -- the loop went to the end
  pub past_whole : (s : List A) (at i : ℕ) → past test s i ≡ past test s at → length s ≤ i → max at (length s) ≡ past test s at
  unfolding past
  past_whole s at i inv h = let q = past_end s i inv h in omega (arith, run_fits (drop at s), length-drop at s)

module _ (test : ℕ → Bool) where
  -- With the loop's invariant in hand, `past test s i ≡ r`; p is what a call answered
  pub past_on : (s : List ℕ) (i : ℕ) {r : ℕ} {p : Bool} → past test s i ≡ r → i < length s → p ≡ test (get_or s i 0) → p ≡ true → past test s (i + 1) ≡ r
  unfolding past
  past_on s i inv h e k = let q = rw (at_cons s i h, run_yes test _ _ (sym e ∙ k)) at inv in omega arith

  pub past_stop : (s : List ℕ) (i : ℕ) {r : ℕ} {p : Bool} → past test s i ≡ r → i < length s → p ≡ test (get_or s i 0) → p ≡ false → i ≡ r
  unfolding past
  past_stop s i inv h e k = let q = rw (at_cons s i h, run_no test _ _ (sym e ∙ k)) at inv in omega arith

  -- nothing is passed, or the end is reached
  pub past_none : (s : List ℕ) (i : ℕ) → test (get_or s i 0) ≡ false → i ≡ past test s i
  past_none s i e =
      by (ltb i (length s)) (λ t. past_stop s i refl (ltb-true i (length s) t) refl e) (λ t. past_end test s i refl (ltb-false i (length s) t))
