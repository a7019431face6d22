-- `equals` tells whether two lists are one.
use Prim.Native.Nat.{ℕ}
use mathlib.Core.Path.{◌≡◌, refl, sym, ap₂}
use mathlib.Core.List.{List, [], ◌∷◌}
use mathlib.Core.Bool.{true, true≢false}
use borrow.Author.Tests.{eq-eqb, eqb-true}
use lib.Dec.{eqb}
use Rattle.scan.specs.Lists.{equals}
use Rattle.scan.proofs.Test.{and_left, and_right}

pub equals_to : (x y : List ℕ) → equals x y ≡ true → x ≡ y
unfolding equals
equals_to [] [] e = refl
equals_to [] (b ∷ y) e = absurd (true≢false (sym e))
equals_to (a ∷ x) [] e = absurd (true≢false (sym e))
equals_to (a ∷ x) (b ∷ y) e =
    ap₂ (λ (h : ℕ) (l : List ℕ). h ∷ l) (eqb-true a b (and_left _ (equals x y) e)) (equals_to x y (and_right (eqb a b) _ e))

pub equals_refl : (x : List ℕ) → equals x x ≡ true
unfolding equals
equals_refl [] = refl
equals_refl (a ∷ x) = simp (eq-eqb a a refl, equals_refl x)
