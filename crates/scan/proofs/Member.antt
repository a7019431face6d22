-- What stands in a list: in its front, in its rest, in one of two parts.
use Prim.Native.Nat.{zero, suc}
use mathlib.Core.Path.{◌≡◌, sym, ap}
use mathlib.Core.Logic.{◌⊎◌, inl, inr, ⊎_elim}
use mathlib.Core.Option.{some, some-injective, none-ne-some}
use mathlib.Core.List.{List, [], ◌∷◌, ◌++◌}
use Rattle.scan.specs.Member.{In}

module _ {A : Type 0} where
  pub in_nil : {x : A} → In x [] → ⊥
  in_nil {x} m = none-ne-some x m.1

  pub in_here : {x y : A} (xs : List A) → x ≡ y → In x (y ∷ xs)
  in_here xs e = (0, ap some (sym e))

  pub in_later : {x y : A} (xs : List A) → In x xs → In x (y ∷ xs)
  in_later xs m = (suc m.0, m.1)

  pub in_cons : {x y : A} (xs : List A) → In x (y ∷ xs) → (x ≡ y) ⊎ In x xs
  in_cons {x} {y} xs (zero, e) = inl (sym (some-injective y x e))
  in_cons xs (suc k, e) = inr (k, e)

  pub in_front : (xs ys : List A) (x : A) → In x xs → In x (xs ++ ys)
  in_front [] ys x m = absurd (in_nil m)
  in_front (y ∷ xs) ys x (zero, e) = (0, e)
  in_front (y ∷ xs) ys x (suc k, e) = in_later (xs ++ ys) (in_front xs ys x (k, e))

  pub in_back : (xs ys : List A) (x : A) → In x ys → In x (xs ++ ys)
  in_back [] ys x m = m
  in_back (y ∷ xs) ys x m = in_later (xs ++ ys) (in_back xs ys x m)

  pub in_either : (xs ys : List A) (x : A) → In x (xs ++ ys) → In x xs ⊎ In x ys
  in_either [] ys x m = inr m
  in_either (y ∷ xs) ys x (zero, e) = inl (0, e)
  in_either (y ∷ xs) ys x (suc k, e) = ⊎_elim (λ m. inl (in_later xs m)) inr (in_either xs ys x (k, e))
