-- What single bytes add, and that nothing is lost from a later place on.
use Prim.Native.Nat.{ℕ, zero, suc, ◌+◌, ◌-◌, ◌≤◌, ◌<◌}
use native.Mathlib.Omega.{arith}
use mathlib.Core.Path.{◌≡◌, refl, sym, ap, ◌∙◌}
use mathlib.Core.List.{List, [], ◌∷◌}
use mathlib.Core.Bool.{Bool, true, false, true≢false, cond, not, ◌&&◌, ◌||◌}
use borrow.Author.Tests.{eq-eqb, ne_eqb, eqb-true}
use lib.Dec.{eqb}
use lib.ListN.{length, get_or, drop, drop_of_length-le}
use lib.Seq.{drop-drop, get_or-drop}
use native.Mathlib.Nat.{add-zero, zero-add}
use Rattle.scan.proofs.Test.{by}
use Rattle.scan.specs.Reading.{run, past}
use Rattle.scan.proofs.Scan.{at_cons, run_yes, run_no}
use Rattle.inline.specs.Pieces.{backtick}
use Rattle.most.specs.Most.{special, ends_span, bit, ends, look, stays, held}

-- ---- one byte
module _ (p : List ℕ) (i : ℕ) (h : i < length p) where
  pub ends_at : ends (drop i p) ≡ bit (ends_span (get_or p i 0) (get_or p (i + 1) 0)) + ends (drop (i + 1) p)
  unfolding ends
  ends_at =
      let e : get_or (drop (i + 1) p) 0 0 ≡ get_or p (i + 1) 0 = rw (get_or-drop, add-zero) in
      rw (at_cons p i h, e)

  pub held_at : held (drop i p) ≡ bit (eqb (get_or p i 0) 91 && stays (drop (i + 1) p)) + held (drop (i + 1) p)
  unfolding held
  held_at = rw (at_cons p i h)

  pub look_at : look (drop i p) ≡ cond (special (get_or p i 0)) (get_or p i 0) (look (drop (i + 1) p))
  unfolding look
  look_at = rw (at_cons p i h)

  -- a byte that is not special adds nothing
  module _ (n : special (get_or p i 0) ≡ false) where
    pub look_same : look (drop (i + 1) p) ≡ look (drop i p)
    look_same = sym (look_at ∙ rw n)

    pub held_same : held (drop (i + 1) p) ≡ held (drop i p)
    held_same =
        let m : (get_or p i 0 ≡ 91) → ⊥ = λ q. true≢false (sym (ap special q) ∙ n) in
        sym (held_at ∙ rw (ne_eqb (get_or p i 0) 91 m) (omega arith))

    pub ends_same : ends (drop (i + 1) p) ≡ ends (drop i p)
    ends_same =
        let a : (get_or p i 0 ≡ 93) → ⊥ = λ q. true≢false (sym (ap special q) ∙ n) in
        let b : (get_or p i 0 ≡ 96) → ⊥ = λ q. true≢false (sym (ap special q) ∙ n) in
        sym (ends_at ∙ rw (ne_eqb (get_or p i 0) 93 a, ne_eqb (get_or p i 0) 96 b) (omega arith))

-- ---- the backticks of a run end one span at the most, and hold nothing
run_ends : (s : List ℕ) → ends (96 ∷ s) ≡ 1 + ends (drop (run backtick s) s)
unfolding ends run
run_ends [] = refl
run_ends (b ∷ s) =
    by (backtick b)
    (λ t. rw (run_yes backtick b s t, eqb-true b 96 t, zero-add (ends (96 ∷ s))) (run_ends s))
    (λ t. rw (run_no backtick b s t, t) refl)

run_held : (s : List ℕ) → held (drop (run backtick s) s) ≡ held s
unfolding held run
run_held [] = refl
run_held (b ∷ s) =
    by (backtick b)
    (λ t. rw (run_yes backtick b s t, eqb-true b 96 t, zero-add (held s)) (run_held s))
    (λ t. rw (run_no backtick b s t) refl)

module _ (p : List ℕ) (i : ℕ) (h : i < length p) (t : get_or p i 0 ≡ 96) {r : ℕ} (e : r ≡ past backtick p (i + 1)) where
  after_run : drop r p ≡ drop (run backtick (drop (i + 1) p)) (drop (i + 1) p)
  unfolding past
  after_run = rw (e, drop-drop)

  pub ends_run : ends (drop i p) ≡ 1 + ends (drop r p)
  ends_run = rw (after_run, at_cons p i h, t) (run_ends (drop (i + 1) p))

  pub held_run : held (drop i p) ≡ held (drop r p)
  held_run = rw after_run (held_at p i h ∙ rw (t, zero-add (held (drop (i + 1) p))) (sym (run_held (drop (i + 1) p))))

-- ---- from a later place on there is no more
abbrev Falls : (List ℕ → ℕ) → Type 0
Falls f = (b : ℕ) (s : List ℕ) → f s ≤ f (b ∷ s)

drops : (f : List ℕ → ℕ) → Falls f → (n : ℕ) (s : List ℕ) → f (drop n s) ≤ f s
drops f falls zero s = omega arith
drops f falls (suc n) [] = omega arith
drops f falls (suc n) (b ∷ s) = omega (arith, drops f falls n s, falls b s)

later : (f : List ℕ → ℕ) → Falls f → (p : List ℕ) (i j : ℕ) → i ≤ j → f (drop j p) ≤ f (drop i p)
later f falls p i j h =
    let n = j - i in
    let e : i + n ≡ j = omega arith in
    rw (← e, ← drop-drop n i p) (drops f falls n (drop i p))

pub ends_later : (p : List ℕ) (i j : ℕ) → i ≤ j → ends (drop j p) ≤ ends (drop i p)
unfolding ends
ends_later = later ends (λ b s. omega arith)

pub held_later : (p : List ℕ) (i j : ℕ) → i ≤ j → held (drop j p) ≤ held (drop i p)
unfolding held
held_later = later held (λ b s. omega arith)
