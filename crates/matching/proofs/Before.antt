-- What was equal when only A to Z were folded is equal, and ASCII labels are equal exactly if they were.
use Prim.Native.Nat.{ℕ}
use native.Mathlib.Omega.{arith}
use mathlib.Core.Path.{◌≡◌, refl, sym, ap, ◌∙◌}
use mathlib.Core.List.{List, [], ◌∷◌, ◌++◌, map}
use mathlib.Core.Logic.{◌↔◌}
use mathlib.Core.Bool.{true, false}
use borrow.Author.Tests.{ltb-true, ltb-false}
use lib.Dec.{ltb}
use lib.ListN.{get_or}
use Rattle.scan.proofs.Test.{by}
use Rattle.scan.specs.Byte.{blank}
use Rattle.scan.specs.Every as every
use Rattle.casefold.specs.Fold.{expand, lower}
use Rattle.folding.specs.Pair.{pair, code_of}
use Rattle.folding.proofs.Pair.{pair_bounds, low_alone}
use Rattle.matching.specs.Form.{Blanks, Word, last, byte, Over, Words, rest, word, Equal}
use Rattle.matching.specs.Reading.{folds_from, folds, squeeze, compared}
use Rattle.matching.specs.Before.{Ascii, ComparedBefore, EqualBefore}
use Rattle.matching.proofs.Forms.{folds_pair, folds_one}
use Rattle.matching.proofs.Spelled.{lower_high, low_second, no_pair_0, lower_ascii}
use Rattle.matching.proofs.Starts.{blank_low, lower_low, lower_ink}
use Rattle.matching.proofs.Twice.{lower_twice, lower_under, swap, squeeze_twice}
use Rattle.matching.proofs.Equality.{read, split, matches_iff, matches_equal}

-- ---- folding A to Z first changes nothing
lower_pair : (b x : ℕ) → pair b x ≡ false → pair (lower b) (lower x) ≡ false
lower_pair b x n =
    by (ltb b 194)
    (λ e. low_alone (lower b) _ (lower_under b (ltb-true b 194 e)))
    (λ e.
    let k = ltb-false b 194 e in
    rw (lower_high b (omega arith))
    (by (ltb x 128)
    (λ f. low_second b _ (lower_ascii x (ltb-true x 128 f)))
    (λ f. let l = ltb-false x 128 f in rw (lower_high x (omega arith)) n)))

lowered_one : (b : ℕ) (t : List ℕ) → pair b (get_or t 0 0) ≡ false → pair (lower b) (get_or (map lower t) 0 0) ≡ false → folds (map lower t) ≡ folds t → folds (map lower (b ∷ t)) ≡ folds (b ∷ t)
lowered_one b t n m ih =
    folds_one (lower b) (map lower t) m ∙ ap (λ (y : ℕ). y ∷ folds (map lower t)) (lower_twice b) ∙ ap (λ (r : List ℕ). lower b ∷ r) ih ∙ sym (folds_one b t n)

lowered : (l : List ℕ) → folds (map lower l) ≡ folds l
unfolding folds_from
lowered [] = refl
lowered (b ∷ []) = lowered_one b [] (no_pair_0 b) (no_pair_0 (lower b)) refl
lowered (b ∷ x ∷ s) =
    by (pair b x)
    (λ p.
    let k = pair_bounds b x p in
    rw (lower_high b (omega arith), lower_high x (omega arith))
    (folds_pair b x (map lower s) p ∙ ap (λ (r : List ℕ). expand (code_of b x) ++ r) (lowered s) ∙ sym (folds_pair b x s p)))
    (λ p. lowered_one b (x ∷ s) p (lower_pair b x p) (lowered (x ∷ s)))

-- ---- the words of a label, with A to Z folded
map-append : (l m : List ℕ) → map lower (l ++ m) ≡ map lower l ++ map lower m
map-append [] m = refl
map-append (b ∷ l) m = ap (λ (r : List ℕ). lower b ∷ r) (map-append l m)

lower_blank : (b : ℕ) → blank b ≡ true → blank (lower b) ≡ true
lower_blank b e = rw (lower_low b (blank_low b e)) e

blanks_lower : {g : List ℕ} → Blanks g → Blanks (map lower g)
blanks_lower every.none = every.none
blanks_lower (every.more {b} e h) = every.more (lower_blank b e) (blanks_lower h)

word_lower : {w : List ℕ} → Word w → Word (map lower w)
word_lower (last {b} e) = last (lower_ink b e)
word_lower (byte {b} e h) = byte (lower_ink b e) (word_lower h)

over_lower : (l : List ℕ) → Over l → Over (map lower l)
over_lower [] o = refl
over_lower (b ∷ l) o = lower_blank b o

words_lower : {l : List ℕ} {ws : List (List ℕ)} → Words l ws → Words (map lower l) (map (map lower) ws)
words_lower (rest h) = rest (blanks_lower h)
words_lower (word {g} {w} {l} b v o h) = rw (map-append g (w ++ l), map-append w l) (word (blanks_lower b) (word_lower v) (over_lower l o) (words_lower h))

-- ---- the old form and the new one
module _ (l c : List ℕ) (e : ComparedBefore l c) where
  squeezed : squeeze (map lower l) true ≡ c
  squeezed = read (words_lower e.splits) ∙ sym e.form

  pub compared_before : compared c ≡ compared l
  unfolding compared
  compared_before =
      ap (λ (s : List ℕ). squeeze (folds s) true) (sym squeezed)
      ∙ ap (λ (s : List ℕ). squeeze s true) (swap (map lower l) true)
      ∙ squeeze_twice (folds (map lower l)) true
      ∙ ap (λ (s : List ℕ). squeeze s true) (lowered l)

pub still_equal : (a b : List ℕ) → EqualBefore a b → Equal a b
still_equal a b e =
    (matches_equal a b).0 ((matches_iff a b).1 (sym (compared_before a e.form e.left) ∙ compared_before b e.form e.right))

-- ---- ASCII
ascii_folds : {l : List ℕ} → Ascii l → folds l ≡ map lower l
unfolding folds_from
ascii_folds every.none = refl
ascii_folds (every.more {b} {l} e h) =
    let k = ltb-true b 128 e in
    folds_one b l (low_alone b (get_or l 0 0) (omega arith)) ∙ ap (λ (r : List ℕ). lower b ∷ r) (ascii_folds h)

ascii_form : (l : List ℕ) → Ascii l → ComparedBefore l (compared l)
unfolding compared
ascii_form l a =
    let s = split l in
    record { words = s.0; splits = s.1; form = ap (λ (f : List ℕ). squeeze f true) (ascii_folds a) ∙ read (words_lower s.1) }

pub ascii_equal : (a b : List ℕ) → Ascii a → Ascii b → Equal a b ↔ EqualBefore a b
ascii_equal a b i j = (
  λ e.
      let q : compared a ≡ compared b = (matches_iff a b).0 ((matches_equal a b).1 e) in
      record { form = compared a; left = ascii_form a i; right = rw q (ascii_form b j) },
  still_equal a b,
)
