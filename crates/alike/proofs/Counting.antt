-- One and the same byte in what is left of two labels.
use Prim.Native.Nat.{ℕ, ◌+◌, ◌-◌}
use native.Mathlib.Nat.{add-zero, zero-add}
use native.Mathlib.Omega.{arith}
use mathlib.Core.Path.{◌≡◌, refl, sym, ◌∙◌}
use mathlib.Core.List.{List}
use mathlib.Core.Bool.{Bool, false}
use lib.ListN.{length, take, drop, length-drop}
use lib.Seq.{take_all, get_or-drop}
use lib.Dec.{leb}
use Rattle.scan.proofs.Test.{leb_same}
use Rattle.alike.specs.Reading.{same, SameCount}

module _ (m : ℕ) (a b : List ℕ) (i j : ℕ) where
  -- none stands there: p is what a call answered
  pub count_none : {p : Bool} → p ≡ same m a b i j → p ≡ false → SameCount m a b i j 0
  count_none e f = record { each = λ k h. absurd (omega arith); stops = rw (add-zero, add-zero) (sym e ∙ f) }

  over : (s : List ℕ) (i k : ℕ) → leb (length (drop i s)) (0 + k) ≡ leb (length s) (i + k)
  over s i k = leb_same _ _ _ _ (λ h. omega (arith, length-drop i s)) (λ h. omega (arith, length-drop i s))

  same_dropped : (k : ℕ) → same m (drop i a) (drop j b) (0 + k) (0 + k) ≡ same m a b (i + k) (j + k)
  unfolding same
  same_dropped k = rw (over a i k, over b j k, zero-add, get_or-drop i a k 0, get_or-drop j b k 0) refl

  count_dropped : {n : ℕ} → SameCount m (drop i a) (drop j b) 0 0 n → SameCount m a b i j n
  count_dropped {n} s = record { each = λ k h. sym (same_dropped k) ∙ s.each k h; stops = sym (same_dropped n) ∙ s.stops }

  -- what is left is a slice to the end
  pub count_rest : {n : ℕ} → SameCount m (take (length a - i) (drop i a)) (take (length b - j) (drop j b)) 0 0 n → SameCount m a b i j n
  count_rest s =
      let left = take_all (length a - i) (drop i a) (omega (arith, length-drop i a)) in
      let right = take_all (length b - j) (drop j b) (omega (arith, length-drop j b)) in
      count_dropped (rw (left, right) at s)
