-- A list in strict order is decided by its members.
use mathlib.Core.Path.{◌≡◌, refl, sym, ap₂, ◌∙◌, subst}
use mathlib.Core.Logic.{◌⊎◌, inl, inr}
use mathlib.Core.Option.{some, some-injective, none-ne-some}
use mathlib.Core.List.{List, [], ◌∷◌}
use Prim.Native.Nat.{ℕ, zero, suc}
use lib.ListN.{get_elem?}
use Rattle.scan.specs.Member.{In}

pub in_cases : {A : Type 0} (z y : A) (ys : List A) → In z (y ∷ ys) → (y ≡ z) ⊎ In z ys
in_cases {A} z y ys h = by h.0 h.1
  where
    by : (k : ℕ) → get_elem? (y ∷ ys) k ≡ some z → (y ≡ z) ⊎ In z ys
    by zero e = inl (some-injective y z e)
    by (suc k) e = inr (k, e)

pub in_later : {A : Type 0} (z y : A) (ys : List A) → In z ys → In z (y ∷ ys)
in_later z y ys h = (suc h.0, h.1)

pub in_none : {A : Type 0} (z : A) → In z [] → ⊥
in_none z h = none-ne-some z h.1

module _ {A : Type 0} (R : A → A → Type 0) (chain : (x y z : A) → R x y → R y z → R x z) (strict : (x : A) → R x x → ⊥) where
  abbrev Rising : List A → Type 0
  Rising xs = (k : ℕ) (x y : A) → get_elem? xs k ≡ some x → get_elem? xs (suc k) ≡ some y → R x y

  rising_tail : (x : A) (xs : List A) → Rising (x ∷ xs) → Rising xs
  rising_tail x xs r = λ k y z a b. r (suc k) y z a b

  pub head_first : (x : A) (xs : List A) → Rising (x ∷ xs) → (z : A) → In z xs → R x z
  head_first x [] r z h = absurd (in_none z h)
  head_first x (y ∷ ys) r z h = by (λ (h' : In z ys). head_first y ys (rising_tail x (y ∷ ys) r) z h') (in_cases z y ys h)
    where
      by : (In z ys → R y z) → (y ≡ z) ⊎ In z ys → R x z
      by further (inl e) = subst (λ (w : A). R x w) e (r 0 x y refl refl)
      by further (inr h') = chain x y z (r 0 x y refl refl) (further h')

  same_head : (x y : A) (xs ys : List A) → Rising (x ∷ xs) → Rising (y ∷ ys) → In x (y ∷ ys) → In y (x ∷ xs) → x ≡ y
  same_head x y xs ys r r' h h' = by (in_cases x y ys h) (in_cases y x xs h')
    where
      by : (y ≡ x) ⊎ In x ys → (x ≡ y) ⊎ In y xs → x ≡ y
      by (inl e) d = sym e
      by (inr i) (inl e) = e
      by (inr i) (inr i') = absurd (strict x (chain x y x (head_first x xs r y i') (head_first y ys r' x i)))

  in_rest : (x y : A) (xs ys : List A) → x ≡ y → Rising (x ∷ xs) → (z : A) → In z xs → In z (y ∷ ys) → In z ys
  in_rest x y xs ys e r z h h' = by (in_cases z y ys h')
    where
      by : (y ≡ z) ⊎ In z ys → In z ys
      by (inl e') = absurd (strict z (subst (λ (w : A). R w z) (e ∙ e') (head_first x xs r z h)))
      by (inr i) = i

  pub sorted_same : (xs ys : List A) → Rising xs → Rising ys → ((z : A) → In z xs → In z ys) → ((z : A) → In z ys → In z xs) → xs ≡ ys
  sorted_same [] [] r r' f h = refl
  sorted_same [] (y ∷ ys) r r' f h = absurd (in_none y (h y (0, refl)))
  sorted_same (x ∷ xs) [] r r' f h = absurd (in_none x (f x (0, refl)))
  sorted_same (x ∷ xs) (y ∷ ys) r r' f h =
      let e : x ≡ y = same_head x y xs ys r r' (f x (0, refl)) (h y (0, refl)) in
      ap₂ {A = A} {B = List A} {C = List A} ◌∷◌ e
      (sorted_same xs ys (rising_tail x xs r) (rising_tail y ys r')
      (λ z i. in_rest x y xs ys e r z i (f z (in_later z x xs i)))
      (λ z i. in_rest y x ys xs (sym e) r' z i (h z (in_later z y ys i))))
