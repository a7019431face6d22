-- The characters of one and of two bytes: reading them folds what they spell; and bytes that stay as they are.
use Prim.Native.Nat.{ℕ, ◌+◌, ◌*◌, ◌-◌, ◌/◌, ◌%◌, ◌≤◌, ◌<◌}
use native.Mathlib.Omega.{arith}
use mathlib.Core.Path.{◌≡◌, sym, ap, ◌∙◌}
use mathlib.Core.List.{List, [], ◌∷◌, ◌++◌, append-nil}
use mathlib.Core.Bool.{true, false}
use borrow.Author.Tests.{le-leb, lt-leb, leb-true, lt-ltb, le-ltb, ltb-true, ltb-false}
use lib.Dec.{leb, ltb}
use lib.ListN.{get_or}
use Rattle.scan.specs.Byte.{within}
use Rattle.scan.proofs.Test.{by, and_left, and_right}
use Rattle.casefold.specs.Fold.{utf8, utf8s, expand, lower}
use Rattle.casefold.proofs.Tested.{later, ascii_folds}
use Rattle.folding.specs.Pair.{pair, code_of}
use Rattle.folding.proofs.Pair.{pair_bounds, low_alone}
use Rattle.matching.specs.Reading.{folds}
use Rattle.matching.proofs.Forms.{folds_pair, folds_one}

-- ---- a later character folds to its own UTF-8, ASCII to lower case
pub expand_later : (c : ℕ) → 1328 ≤ c → expand c ≡ utf8 c
unfolding expand utf8s
expand_later c h = rw (later c h) (append-nil (utf8 c))

pub lower_ascii : (b : ℕ) → b < 128 → lower b < 128
unfolding lower
lower_ascii b h =
    by (within 65 90 b)
    (λ w. let k : b ≤ 90 = leb-true b 90 (and_right (leb 65 b) _ w) in rw w (omega arith))
    (λ w. rw w h)

pub expand_ascii : (b : ℕ) → b < 128 → expand b ≡ lower b ∷ []
unfolding expand utf8s utf8
expand_ascii b h = rw (ascii_folds b h) (rw (lt-ltb (lower b) 0x80 (lower_ascii b h)))

-- ---- two bytes that are no character of the table
pub low_second : (b y : ℕ) → y < 128 → pair b y ≡ false
low_second b y h = by (pair b y) (λ q. let k = pair_bounds b y q in let no : ⊥ = omega arith in absurd no) (λ q. q)

pub no_pair_0 : (b : ℕ) → pair b 0 ≡ false
no_pair_0 b = low_second b 0 (omega arith)

pub second_high : (b x : ℕ) → pair b x ≡ true → x ≤ 0xBF
unfolding pair
second_high b x e = leb-true x 0xBF (and_right (leb 0x80 x) _ (and_left _ (ltb (b * 64 + x) 13744) (and_right (within 0xC2 0xD4 b) _ e)))

-- ---- a byte above 90 that starts no character of two bytes stays
pub lower_high : (b : ℕ) → 91 ≤ b → lower b ≡ b
unfolding lower
lower_high b h = by (leb 65 b) (λ e. rw (e, lt-leb b 90 h)) (λ e. rw e)

pub passes : (b : ℕ) (s : List ℕ) → 91 ≤ b → pair b (get_or s 0 0) ≡ false → folds (b ∷ s) ≡ b ∷ folds s
passes b s h p = folds_one b s p ∙ ap (λ (x : ℕ). x ∷ folds s) (lower_high b h)

pub over_lead : (b x : ℕ) → 0xD5 ≤ b → pair b x ≡ false
unfolding pair
over_lead b x h = by (leb 0xC2 b) (λ e. rw (e, lt-leb b 0xD4 h)) (λ e. rw e)

module _ (s : List ℕ) where
  pub one : (a : ℕ) → a ≤ 0x7F → folds (a ∷ s) ≡ expand a ++ folds s
  one a h = folds_one a s (low_alone a (get_or s 0 0) (omega arith)) ∙ rw (expand_ascii a (omega arith))

  pub tail : (b : ℕ) (t : List ℕ) → 0x80 ≤ b → b ≤ 0xBF → folds (b ∷ t) ≡ b ∷ folds t
  tail b t l h = passes b t (omega arith) (low_alone b (get_or t 0 0) (omega arith))

  pub two : (a b : ℕ) → 0xC2 ≤ a → a ≤ 0xDF → 0x80 ≤ b → b ≤ 0xBF → folds (a ∷ b ∷ s) ≡ expand ((a - 0xC0) * 64 + (b - 0x80)) ++ folds s
  unfolding utf8 pair code_of
  two a b la ha lb hb =
      by (ltb ((a - 0xC0) * 64 + (b - 0x80)) 1328)
      (λ e.
      let k : (a - 0xC0) * 64 + (b - 0x80) < 1328 = ltb-true _ _ e in
      let m : a * 64 + b < 13744 = omega arith in
      let n : a ≤ 0xD4 = omega arith in
      let p : pair a b ≡ true = rw (le-leb 0xC2 a la, le-leb a 0xD4 n, le-leb 0x80 b lb, le-leb b 0xBF hb, lt-ltb (a * 64 + b) 13744 m) in
      let q : code_of a b ≡ (a - 0xC0) * 64 + (b - 0x80) = omega arith in
      folds_pair a b s p ∙ ap (λ (c : ℕ). expand c ++ folds s) q)
      (λ e.
      let k : 1328 ≤ (a - 0xC0) * 64 + (b - 0x80) = ltb-false _ _ e in
      let p : pair a b ≡ false = by (pair a b) (λ t. let m = pair_bounds a b t in let no : ⊥ = omega arith in absurd no) (λ t. t) in
      let u : utf8 ((a - 0xC0) * 64 + (b - 0x80)) ≡ a ∷ b ∷ [] = two_spelt a b la ha lb hb k in
      passes a (b ∷ s) (omega arith) p ∙ ap (λ (r : List ℕ). a ∷ r) (tail b s lb hb) ∙ ap (λ (r : List ℕ). r ++ folds s) (sym (expand_later _ k ∙ u)))
    where
      two_spelt : (a b : ℕ) → 0xC2 ≤ a → a ≤ 0xDF → 0x80 ≤ b → b ≤ 0xBF → 1328 ≤ (a - 0xC0) * 64 + (b - 0x80) → utf8 ((a - 0xC0) * 64 + (b - 0x80)) ≡ a ∷ b ∷ []
      two_spelt a b la ha lb hb k =
          let c = (a - 0xC0) * 64 + (b - 0x80) in
          let d : 0xC0 + ((a - 0xC0) * 64 + (b - 0x80)) / 64 ≡ a = omega arith in
          let m : 0x80 + ((a - 0xC0) * 64 + (b - 0x80)) % 64 ≡ b = omega arith in
          rw (le-ltb ((a - 0xC0) * 64 + (b - 0x80)) 0x80 (omega arith), lt-ltb ((a - 0xC0) * 64 + (b - 0x80)) 0x800 (omega arith)) (rw (d, m))
