-- Reading on from character to character: what each turn of the loop shows.
use Rattle.std.specs.Prelude.{None, Option, Some}
use Prim.Native.Nat.{ℕ, zero, suc, ◌+◌, ◌-◌, ◌≤◌, ◌<◌}
use native.Mathlib.Nat.{add-zero}
use native.Mathlib.Omega.{arith}
use mathlib.Core.Path.{◌≡◌, refl, sym, ap, ◌∙◌}
use mathlib.Core.List.{List, [], ◌∷◌}
use lib.ListN.{length, drop, length-drop, drop_of_length-le}
use lib.Seq.{drop-drop}
use borrow.Author.Tests.{le-ltb}
use Rattle.scan.proofs.Scan.{at_cons}
use Rattle.text.specs.Reading.{good_length, first_bad_past, first_bad, checked_by, check_of}
use Rattle.text.specs.Utf8.{note_limit}
use Rattle.text.proofs.Rows.{good_size}

pub first_end : (at : ℕ) → first_bad [] at ≡ None
unfolding first_bad first_bad_past
first_end at = refl

pub first_here : (b : ℕ) (s : List ℕ) (at : ℕ) → good_length (b ∷ s) ≡ None → first_bad (b ∷ s) at ≡ Some at
unfolding first_bad first_bad_past
first_here b s at e = rw (e, first_bad_past)

-- the bytes that are passed
past : (k : ℕ) (s : List ℕ) (at : ℕ) → first_bad_past k s at ≡ first_bad_past 0 (drop k s) (at + k)
unfolding first_bad_past
past zero s at = rw add-zero
past (suc k) [] at = refl
past (suc k) (b ∷ s) at = let e : at + 1 + k ≡ at + suc k = omega arith in past k s (at + 1) ∙ rw e

-- after a good character reading goes on behind it
pub first_on : (s : List ℕ) (at n : ℕ) → good_length s ≡ Some n → first_bad s at ≡ first_bad (drop n s) (at + n)
unfolding first_bad first_bad_past
first_on [] at n e = let h = (good_size [] e) in let no : ⊥ = omega arith in absurd no
first_on (b ∷ s) at n e =
    let h = (good_size (b ∷ s) e).0 in
    let f : at + 1 + (n - 1) ≡ at + n = omega arith in
    let g : suc (n - 1) ≡ n = omega arith in
    let d : drop (n - 1) s ≡ drop n (b ∷ s) = ap (λ (k : ℕ). drop k (b ∷ s)) g in
    rw (e, first_bad_past) (past (n - 1) s (at + 1) ∙ rw (f, d))

-- ---- With the loop's invariant in hand, `first_bad (drop i s) i ≡ r`; what a call answered is `good_length (drop i s)`
module _ (s : List ℕ) (i : ℕ) where
  pub bad_here : {a : Option ℕ} {r : Option ℕ} → first_bad (drop i s) i ≡ r → i < length s → a ≡ good_length (drop i s) → a ≡ None → Some i ≡ r
  bad_here inv h e z = sym (rw (at_cons s i h) (first_here _ _ i (rw (at_cons s i h) at (sym e ∙ z)))) ∙ inv

  pub good_passed : {n : ℕ} {r : Option ℕ} → first_bad (drop i s) i ≡ r → good_length (drop i s) ≡ Some n → first_bad (drop (i + n) s) (i + n) ≡ r
  good_passed {n} inv e = rw (← drop-drop n i s) (sym (first_on (drop i s) i n e) ∙ inv)

  pub none_bad : {r : Option ℕ} → first_bad (drop i s) i ≡ r → length s ≤ i → None ≡ r
  none_bad inv h = sym (rw (drop_of_length-le s h) (first_end i)) ∙ inv

  pub within_note : {n : ℕ} → i < length s → good_length (drop i s) ≡ Some n → (0 < n) × (i + n ≤ length s)
  within_note h e = let k = good_size (drop i s) e in (k.0, omega (arith, length-drop i s))

-- ---- a note that is short enough
pub checks : (s : List ℕ) {f : Option ℕ} → length s ≤ note_limit → f ≡ first_bad s 0 → checked_by f ≡ check_of s
unfolding check_of
checks s h e = rw (le-ltb note_limit (length s) h, check_of) (ap checked_by e)
