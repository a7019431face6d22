-- What stands in a list made by a function, and in two lists side by side.
use Prim.Native.Nat.{ℕ, zero, suc}
use mathlib.Core.Path.{◌≡◌, refl, sym, ap, subst}
use mathlib.Core.Option.{some, some-injective, none-ne-some}
use mathlib.Core.List.{List, [], ◌∷◌, map, Forall₂, Memᴰ}
use lib.ListN.{get_elem?}
use Rattle.scan.specs.Member.{In}

pub record Mapped {A B : Type 0} (f : A → B) (xs : List A) (y : B) : Type 0 where
  pub from : A
  pub there : In from xs
  pub is : f from ≡ y

module _ {A B : Type 0} (f : A → B) where
  pub in_mapped : (xs : List A) (y : B) → In y (map f xs) → Mapped f xs y
  in_mapped xs y h = by xs h.0 h.1
    where
      later : (x : A) (xs' : List A) → Mapped f xs' y → Mapped f (x ∷ xs') y
      later x xs' m = record { from = m.from; there = (suc m.there.0, m.there.1); is = m.is }

      by : (xs' : List A) (k : ℕ) → get_elem? (map f xs') k ≡ some y → Mapped f xs' y
      by [] k e = absurd (none-ne-some y e)
      by (x ∷ xs') zero e = record { from = x; there = (0, refl); is = some-injective (f x) y e }
      by (x ∷ xs') (suc k) e = later x xs' (by xs' k e)

  pub mapped_at : (xs : List A) (k : ℕ) (x : A) → get_elem? xs k ≡ some x → get_elem? (map f xs) k ≡ some (f x)
  mapped_at [] k x e = absurd (none-ne-some x e)
  mapped_at (z ∷ xs) zero x e = ap (λ (w : A). some (f w)) (some-injective z x e)
  mapped_at (z ∷ xs) (suc k) x e = mapped_at xs k x e

  pub mapped_in : (xs : List A) (x : A) → In x xs → In (f x) (map f xs)
  mapped_in xs x (k, e) = (k, mapped_at xs k x e)

pub pair_at : {A B : Type 0} {R : A → B → Type 0} {xs : List A} {ys : List B} → Forall₂ R xs ys → (k : ℕ) (x : A) (y : B) → get_elem? xs k ≡ some x → get_elem? ys k ≡ some y → R x y
pair_at Forall₂.nil k x y e d = absurd (none-ne-some x e)
pair_at {R} (Forall₂.cons {a = a} {b = b} h t) zero x y e d = subst (λ w. R w y) (some-injective a x e) (subst (λ w. R a w) (some-injective b y d) h)
pair_at (Forall₂.cons h t) (suc k) x y e d = pair_at t k x y e d

pub at_member : {A : Type 0} (xs : List A) (k : ℕ) (x : A) → get_elem? xs k ≡ some x → Memᴰ x xs
at_member [] k x e = absurd (none-ne-some x e)
at_member (y ∷ xs) zero x e = Memᴰ.head (sym (some-injective y x e))
at_member (y ∷ xs) (suc k) x e = Memᴰ.tail (at_member xs k x e)
