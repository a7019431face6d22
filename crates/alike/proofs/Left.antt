-- What is left of a compared form from i on, where the blanks there reach to p: nothing, or the word at p with a space before it if there is a gap.
use Prim.Native.Nat.{ℕ, ◌+◌, ◌≤◌, ◌<◌}
use native.Mathlib.Nat.{add-zero}
use native.Mathlib.Omega.{arith}
use mathlib.Core.Path.{◌≡◌, refl, sym, ap, ◌∙◌}
use mathlib.Core.List.{List, [], ◌∷◌, ◌++◌}
use mathlib.Core.Bool.{Bool, true, false, true≢false, not}
use borrow.Author.Tests.{ne_eqb, eqb-true, eqb-false, not-true, not-false}
use lib.ListN.{length, get_or, drop, length-drop, drop_of_length-le}
use lib.Seq.{get_or-drop, drop-drop}
use lib.Dec.{eqb}
use Rattle.scan.specs.Byte.{blank}
use Rattle.scan.specs.Reading.{run, past}
use Rattle.scan.proofs.Test.{by, and_left, and_right}
use Rattle.scan.proofs.Scan.{run_yes, run_no, at_cons}
use Rattle.casefold.specs.Fold.{expand, lower, inked}
use Rattle.folding.specs.Pair.{pair, code_of, headed}
use Rattle.folding.proofs.Pair.{code_low, code_high}
use Rattle.folding.proofs.Words.{expand_inked, expand_headed}
use Rattle.matching.specs.Reading.{folds_from, folds, spaced, squeeze}
use Rattle.matching.proofs.Forms.{squeeze_blank}
use Rattle.matching.proofs.Spelled.{no_pair_0}
use Rattle.matching.proofs.Starts.{lower_ink, folds_blank, start_one, start_pair, start_any, start_spaced}
use Rattle.alike.specs.Reading.{gap}
use Rattle.alike.specs.Left.{form_from, word_from}

-- ---- blanks at the front
abbrev behind : List ℕ → List ℕ
behind s = drop (run blank s) s

tight_run : (s : List ℕ) → squeeze (folds s) true ≡ squeeze (folds (behind s)) true
unfolding run
tight_run [] = refl
tight_run (b ∷ s) =
    by (blank b)
    (λ e. rw (run_yes blank b s e, folds_blank b s e) (squeeze_blank b (folds s) true e ∙ tight_run s))
    (λ e. rw (run_no blank b s e))

loose_run : (s : List ℕ) → (run blank s ≡ 0 → ⊥) → squeeze (folds s) false ≡ spaced (squeeze (folds (behind s)) true)
unfolding run
loose_run [] n = absurd (n refl)
loose_run (b ∷ s) n =
    by (blank b)
    (λ e. rw (run_yes blank b s e, folds_blank b s e) (squeeze_blank b (folds s) false e ∙ ap spaced (tight_run s)))
    (λ e. absurd (n (run_no blank b s e)))

first_ink : (s : List ℕ) → run blank s < length s → blank (get_or s (run blank s) 0) ≡ false
unfolding run
first_ink [] h = let no : ⊥ = omega arith in absurd no
first_ink (b ∷ s) h =
    by (blank b)
    (λ e. rw (run_yes blank b s e) (first_ink s (let k = rw (run_yes blank b s e) at h in omega arith)))
    (λ e. rw (run_no blank b s e) e)

nothing : (t : Bool) → squeeze (folds []) t ≡ []
unfolding squeeze folds_from
nothing t = refl

spaced_nil : spaced [] ≡ []
unfolding spaced
spaced_nil = refl

-- ---- from i on, where the blanks reach to p
abbrev pub put : Bool → List ℕ → List ℕ
put true l = 32 ∷ l
put false l = l

module _ (s : List ℕ) (i p : ℕ) (ep : p ≡ past blank s i) where
  reach : p ≡ i + run blank (drop i s)
  unfolding past
  reach = ep

  pub past_from : i ≤ p
  past_from = let r = reach in omega arith

  here : behind (drop i s) ≡ drop p s
  here = rw (drop-drop, ← reach)

  pub form_over : length s ≤ p → form_from s i ≡ []
  form_over h =
      let e : squeeze (folds (behind (drop i s))) true ≡ [] = rw (here, drop_of_length-le s h) (nothing true) in
      by (eqb i 0)
      (λ q. rw q (tight_run (drop i s) ∙ e))
      (λ q. by (eqb (run blank (drop i s)) 0)
      (λ r. let k = eqb-true (run blank (drop i s)) 0 r in let l = reach in let m : length s ≤ i = omega arith in let f : drop i s ≡ [] = drop_of_length-le s m in rw f (nothing (eqb i 0)))
      (λ r. rw q (loose_run (drop i s) (eqb-false _ _ r) ∙ ap spaced e ∙ spaced_nil)))

  module _ (h : p < length s) where
    pub ink_at : blank (get_or s p 0) ≡ false
    ink_at = rw reach (rw get_or-drop at (first_ink (drop i s) (let r = reach in rw length-drop (omega arith))))

    there : drop p s ≡ get_or s p 0 ∷ drop (p + 1) s
    there = at_cons s p h

    any : (t : Bool) → squeeze (folds (drop p s)) t ≡ word_from s p
    any t = rw there (start_any (get_or s p 0) (drop (p + 1) s) t false ink_at)

    form_gap : gap i p ≡ true → form_from s i ≡ 32 ∷ word_from s p
    form_gap g =
        let a : eqb i 0 ≡ false = not-true _ (and_left _ (not (eqb p i)) g) in
        let b : eqb p i ≡ false = not-true _ (and_right (not (eqb i 0)) _ g) in
        let n : run blank (drop i s) ≡ 0 → ⊥ = λ q. eqb-false p i b (let r = reach in omega arith) in
        let e : spaced (squeeze (folds (drop p s)) true) ≡ 32 ∷ word_from s p = rw there (start_spaced (get_or s p 0) (drop (p + 1) s) true ink_at) in
        rw a (loose_run (drop i s) n) ∙ ap (λ (l : List ℕ). spaced (squeeze (folds l) true)) here ∙ e

    form_on : gap i p ≡ false → form_from s i ≡ word_from s p
    form_on g =
        by (eqb i 0)
        (λ q. rw q (tight_run (drop i s)) ∙ ap (λ (l : List ℕ). squeeze (folds l) true) here ∙ any true)
        (λ q. let f : eqb p i ≡ true = not-false _ (rw q at g) in rw (← eqb-true p i f) (any (eqb p 0)))

    pub form_at : form_from s i ≡ put (gap i p) (word_from s p)
    form_at = by (gap i p) (λ g. rw g (form_gap g)) (λ g. rw g (form_on g))

    -- read on from p, the form is the word's
    pub form_word : form_from s p ≡ word_from s p
    form_word = any (eqb p 0)

-- ---- the first byte of a word
pub record Inked (l : List ℕ) : Type 0 where
  pub first : ℕ
  pub more : List ℕ
  pub whole : l ≡ first ∷ more
  pub ink : blank first ≡ false

ink_front : (l m : List ℕ) → inked l ≡ true → headed l ≡ true → Inked (l ++ m)
unfolding inked
ink_front [] m e h = absurd (true≢false (sym h))
ink_front (x ∷ l) m e h = record { first = x; more = l ++ m; whole = refl; ink = not-true _ (and_left _ (inked l) e) }

start_ink : (b : ℕ) (s : List ℕ) → blank b ≡ false → Inked (squeeze (folds (b ∷ s)) false)
start_ink b [] e = record { first = _; more = _; whole = start_one b [] false e (no_pair_0 b); ink = lower_ink b e }
start_ink b (x ∷ s) e =
    by (pair b x)
    (λ p. rw (start_pair b x s false p) (ink_front (expand (code_of b x)) _ (expand_inked (code_of b x) (code_low b x p) (code_high b x p)) (expand_headed (code_of b x) (code_low b x p) (code_high b x p))))
    (λ p. record { first = _; more = _; whole = start_one b (x ∷ s) false e p; ink = lower_ink b e })

pub word_ink : (s : List ℕ) (p : ℕ) → p < length s → blank (get_or s p 0) ≡ false → Inked (word_from s p)
word_ink s p h e = rw (at_cons s p h) (start_ink (get_or s p 0) (drop (p + 1) s) e)

-- ---- the byte at p stands alone: the word goes on after it
pub loose : (p k : ℕ) → 0 < k → eqb (p + k) 0 ≡ false
loose p k h = ne_eqb (p + k) 0 (λ q. omega arith)

pub word_one : (s : List ℕ) (p : ℕ) → p < length s → blank (get_or s p 0) ≡ false → pair (get_or s p 0) (get_or s (p + 1) 0) ≡ false → word_from s p ≡ lower (get_or s p 0) ∷ form_from s (p + 1)
word_one s p h e n =
    let looked : get_or (drop (p + 1) s) 0 0 ≡ get_or s (p + 1) 0 = rw (get_or-drop, add-zero) in
    rw (at_cons s p h, loose p 1 (omega arith)) (start_one (get_or s p 0) (drop (p + 1) s) false e (rw looked n))
