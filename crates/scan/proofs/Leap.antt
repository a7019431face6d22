-- Reading by leaps: one leap, and the end.
use Prim.Native.Nat.{ℕ, zero, suc, ◌+◌, ◌-◌, ◌≤◌}
use native.Mathlib.Nat.{add-zero}
use native.Mathlib.Omega.{arith}
use mathlib.Core.Path.{◌≡◌, refl, ap, ◌∙◌}
use mathlib.Core.List.{List, [], ◌∷◌, ◌++◌}
use lib.ListN.{length, drop, drop_of_length-le}
use Rattle.scan.specs.Reading.{leap}

module _ {A : Type 0} (size : List ℕ → ℕ) (items : List ℕ → ℕ → List A) where
  pub leap_over : (k : ℕ) (s : List ℕ) (at : ℕ) → leap size items k s at ≡ leap size items zero (drop k s) (at + k)
  unfolding leap
  leap_over zero s at = rw (add-zero at)
  leap_over (suc k) [] at = refl
  leap_over (suc k) (b ∷ s) at = leap_over k s (at + 1) ∙ ap (leap size items zero (drop k s)) (omega arith)

  pub leap_end : (s : List ℕ) (i at : ℕ) → length s ≤ i → leap size items zero (drop i s) at ≡ []
  unfolding leap
  leap_end s i at h = rw (drop_of_length-le s h)

  -- one leap on a list that is written out
  pub leap_cons : (b : ℕ) (s : List ℕ) (at n : ℕ) → size (b ∷ s) ≡ suc n → leap size items zero (b ∷ s) at ≡ items (b ∷ s) at ++ leap size items zero (drop n s) (at + suc n)
  unfolding leap
  leap_cons b s at n e =
      let p : size (b ∷ s) - 1 ≡ n = omega arith in
      ap (λ (k : ℕ). items (b ∷ s) at ++ leap size items k s (at + 1)) p
      ∙ ap (λ (x : List A). items (b ∷ s) at ++ x) (leap_over n s (at + 1) ∙ ap (leap size items zero (drop n s)) (omega arith))
