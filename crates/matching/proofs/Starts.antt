-- A blank at the front of a text that is folded and trimmed, and the start of a word.
use Prim.Native.Nat.{ℕ, ◌+◌, ◌≤◌, ◌<◌}
use native.Mathlib.Omega.{arith}
use mathlib.Core.Path.{◌≡◌, refl, sym, ap, ◌∙◌}
use mathlib.Core.List.{List, [], ◌∷◌, ◌++◌}
use mathlib.Core.Bool.{Bool, true, false, true≢false, not}
use borrow.Author.Tests.{ne_eqb, eqb-true, leb-true, lt-leb, not-true}
use lib.ListN.{get_or}
use lib.Dec.{leb, eqb}
use Rattle.scan.specs.Byte.{within, blank}
use Rattle.scan.proofs.Test.{by, and_left, and_right}
use Rattle.casefold.specs.Fold.{expand, lower, inked}
use Rattle.folding.specs.Pair.{pair, code_of, headed}
use Rattle.folding.proofs.Pair.{code_low, code_high, low_alone}
use Rattle.folding.proofs.Words.{expand_inked, expand_headed}
use Rattle.matching.specs.Reading.{folds, spaced, squeeze}
use Rattle.matching.proofs.Forms.{folds_pair, folds_one, squeeze_ink}
use Rattle.matching.proofs.Spelled.{no_pair_0}

-- ---- blanks and other bytes
pub blank_low : (b : ℕ) → blank b ≡ true → b < 65
blank_low b e =
    by (eqb b 32) (λ q. let k = eqb-true b 32 q in omega arith)
    (λ q. by (eqb b 9) (λ r. let k = eqb-true b 9 r in omega arith) (λ r. let k = eqb-true b 10 (rw (q, r) at e) in omega arith))

pub lower_low : (b : ℕ) → b < 65 → lower b ≡ b
unfolding lower
lower_low b h = rw (lt-leb 65 b h)

pub lower_ink : (b : ℕ) → blank b ≡ false → blank (lower b) ≡ false
unfolding lower
lower_ink b e =
    by (within 65 90 b)
    (λ w. let k : 65 ≤ b = leb-true 65 b (and_left _ (leb b 90) w) in
    rw w (simp (ne_eqb (b + 32) 32 (λ q. omega arith), ne_eqb (b + 32) 9 (λ q. omega arith), ne_eqb (b + 32) 10 (λ q. omega arith))))
    (λ w. rw w e)

pub lower_byte : (b : ℕ) → b < 256 → lower b ≡ 256 → ⊥
unfolding lower
lower_byte b h q =
    by (within 65 90 b)
    (λ w. let k : b ≤ 90 = leb-true b 90 (and_right (leb 65 b) _ w) in let l : b + 32 ≡ 256 = sym (rw w) ∙ q in omega arith)
    (λ w. let l : b ≡ 256 = sym (rw w) ∙ q in omega arith)

pub folds_blank : (b : ℕ) (s : List ℕ) → blank b ≡ true → folds (b ∷ s) ≡ b ∷ folds s
folds_blank b s e =
    let h : b < 65 = blank_low b e in
    folds_one b s (low_alone b (get_or s 0 0) (omega arith)) ∙ ap (λ (x : ℕ). x ∷ folds s) (lower_low b h)

-- ---- the start of a word
squeeze_inked : (l m : List ℕ) → inked l ≡ true → squeeze (l ++ m) false ≡ l ++ squeeze m false
unfolding inked
squeeze_inked [] m e = refl
squeeze_inked (x ∷ l) m e =
    squeeze_ink x (l ++ m) false (not-true _ (and_left _ (inked l) e)) ∙ ap (λ (r : List ℕ). x ∷ r) (squeeze_inked l m (and_right (not (blank x)) _ e))

word_start : (l m : List ℕ) (t : Bool) → inked l ≡ true → headed l ≡ true → squeeze (l ++ m) t ≡ l ++ squeeze m false
unfolding inked
word_start [] m t e h = absurd (true≢false (sym h))
word_start (x ∷ l) m t e h =
    squeeze_ink x (l ++ m) t (not-true _ (and_left _ (inked l) e)) ∙ ap (λ (r : List ℕ). x ∷ r) (squeeze_inked l m (and_right (not (blank x)) _ e))

pub start_one : (b : ℕ) (s : List ℕ) (t : Bool) → blank b ≡ false → pair b (get_or s 0 0) ≡ false → squeeze (folds (b ∷ s)) t ≡ lower b ∷ squeeze (folds s) false
start_one b s t e p = rw (folds_one b s p) (squeeze_ink (lower b) (folds s) t (lower_ink b e))

pub start_pair : (b x : ℕ) (s : List ℕ) (t : Bool) → pair b x ≡ true → squeeze (folds (b ∷ x ∷ s)) t ≡ expand (code_of b x) ++ squeeze (folds s) false
start_pair b x s t p =
    let l = code_low b x p in
    let h = code_high b x p in
    rw (folds_pair b x s p) (word_start (expand (code_of b x)) (folds s) t (expand_inked (code_of b x) l h) (expand_headed (code_of b x) l h))

pub spaced_headed : (l m : List ℕ) → headed l ≡ true → spaced (l ++ m) ≡ 32 ∷ (l ++ m)
unfolding spaced
spaced_headed [] m h = absurd (true≢false (sym h))
spaced_headed (x ∷ l) m h = refl

pub start_any : (b : ℕ) (s : List ℕ) (t u : Bool) → blank b ≡ false → squeeze (folds (b ∷ s)) t ≡ squeeze (folds (b ∷ s)) u
start_any b [] t u e = let p = no_pair_0 b in
    start_one b [] t e p ∙ sym (start_one b [] u e p)
start_any b (x ∷ s) t u e =
    by (pair b x) (λ p. start_pair b x s t p ∙ sym (start_pair b x s u p)) (λ p. start_one b (x ∷ s) t e p ∙ sym (start_one b (x ∷ s) u e p))

pub start_spaced : (b : ℕ) (s : List ℕ) (t : Bool) → blank b ≡ false → spaced (squeeze (folds (b ∷ s)) t) ≡ 32 ∷ squeeze (folds (b ∷ s)) false
unfolding spaced
start_spaced b [] t e = let p = no_pair_0 b in
    rw (start_one b [] t e p, start_one b [] false e p)
start_spaced b (x ∷ s) t e =
    by (pair b x)
    (λ p. rw (start_pair b x s t p, start_pair b x s false p) (spaced_headed (expand (code_of b x)) _ (expand_headed (code_of b x) (code_low b x p) (code_high b x p))))
    (λ p. rw (start_one b (x ∷ s) t e p, start_one b (x ∷ s) false e p))
