-- A form byte by byte: each step takes one byte off it.
use Prim.Native.Nat.{ℕ, ◌/◌, ◌%◌, ◌≤◌, ◌<◌, ◌^◌}
use native.Mathlib.Omega.{arith}
use mathlib.Core.Path.{◌≡◌, refl, sym, ap, ◌∙◌}
use mathlib.Core.List.{List, [], ◌∷◌, ◌++◌}
use mathlib.Core.Bool.{true, false}
use lib.ListN.{length}
use Rattle.std.specs.Ordering.{is_eq, nat_cmp}
use Rattle.std.specs.Cmp.Lexicographic.{slice_cmp}
use Rattle.std.specs.declared.cmp.Ordering.{Ordering}
use Rattle.std.proofs.lemmas.Bool.Decides.{nat_tests}
use Rattle.std.proofs.lemmas.Cmp.{same_from_slice_cmp}
use Rattle.scan.specs.Byte.{blank}
use Rattle.scan.specs.Reading.{past}
use Rattle.matching.specs.Reading.{equals}
use Rattle.alike.specs.Reading.{gap}
use Rattle.alike.specs.Left.{form_from, word_from, form, Opens}
use Rattle.alike.proofs.Left.{put, form_over, form_at, form_word}
use Rattle.alike.proofs.Opening.{unpack_next, unpacked_0}

pub form_0 : (s : List ℕ) (i : ℕ) → form s i 0 ≡ form_from s i
form_0 s i = rw unpacked_0 refl

-- ---- one byte off a form
-- bytes of a folded character come first
pub step_left : (s : List ℕ) (i w : ℕ) → (w ≡ 0 → ⊥) → w < 2 ^ 64 → form s i w ≡ w % 256 ∷ form s i (w / 256)
step_left s i w n l = ap (λ (m : List ℕ). m ++ form_from s i) (unpack_next w n l)

-- none do, and the blanks at i reach to p
module _ (s : List ℕ) (i p w : ℕ) (z : w ≡ 0) (ep : p ≡ past blank s i) where
  bare : form s i w ≡ form_from s i
  bare = rw z (form_0 s i)

  pub step_over : length s ≤ p → form s i w ≡ []
  step_over h = bare ∙ form_over s i p ep h

  module _ (h : p < length s) where
    starts : {g : _} → gap i p ≡ g → form s i w ≡ put g (word_from s p)
    starts e = bare ∙ form_at s i p ep h ∙ ap (λ g. put g (word_from s p)) e

    pub step_gap : gap i p ≡ true → form s i w ≡ 32 ∷ form s p w
    step_gap t = starts t ∙ ap (λ (l : List ℕ). 32 ∷ l) (sym (rw z (form_0 s p) ∙ form_word s i p ep h))

    pub step_open : gap i p ≡ false → {byte at left : ℕ} → Opens s p byte at left → form s i w ≡ byte ∷ form s at left
    step_open f o = starts f ∙ o.opens

pub less : (x : ℕ) (l : List ℕ) {f : List ℕ} → f ≡ x ∷ l → length l < length f
less x l e = let k = ap length e in omega arith

-- ---- std's order of two lists tells whether they are one
pub ties : (r : Ordering) (l m : List ℕ) → r ≡ slice_cmp nat_cmp l m → is_eq r ≡ equals l m
unfolding equals
ties r l m = same_from_slice_cmp nat_cmp is_eq equals refl (λ y ys. refl) (λ x xs. refl) (λ x y xs ys o h. grind (arith, nat_tests)) l m r
