-- Laws of `get_elem?`, `take` and `++` that the marking's proofs use.
use mathlib.Core.Path.{◌≡◌, refl, sym, ap, ◌∙◌}
use mathlib.Core.Logic.{◌⊎◌, inl, inr}
use mathlib.Core.Option.{Option, none, some, some-injective, none-ne-some}
use mathlib.Core.List.{List, [], ◌∷◌, ◌++◌}
use Prim.Native.Nat.{ℕ, zero, suc, ◌+◌, ◌≤◌, ◌<◌, suc-le-suc}
use native.Mathlib.Nat.{le_of_suc-le-suc, not-suc-le-zero}
use native.Mathlib.Omega.{arith}
use lib.ListN.{length, take, drop, get_elem?}
use lib.Seq.{take-take, take_all}

module _ {A : Type 0} where
  abbrev pub to_list : Option A → List A
  to_list none = []
  to_list (some a) = a ∷ []

  pub get_elem?_take : (k i : ℕ) (l : List A) → i < k → get_elem? (take k l) i ≡ get_elem? l i
  get_elem?_take zero i l h = absurd (not-suc-le-zero h)
  get_elem?_take (suc k) i [] h = refl
  get_elem?_take (suc k) zero (x ∷ l) h = refl
  get_elem?_take (suc k) (suc i) (x ∷ l) h = get_elem?_take k i l (le_of_suc-le-suc h)

  pub take_suc? : (k : ℕ) (l : List A) → take (suc k) l ≡ take k l ++ to_list (get_elem? l k)
  take_suc? zero [] = refl
  take_suc? zero (x ∷ l) = refl
  take_suc? (suc k) [] = refl
  take_suc? (suc k) (x ∷ l) = ap (λ (r : List A). x ∷ r) (take_suc? k l)

  pub take_step : (k : ℕ) (l l' : List A) → take k l ≡ take k l' → get_elem? l k ≡ get_elem? l' k → take (suc k) l ≡ take (suc k) l'
  take_step k l l' e h = rw (take_suc? k l, take_suc? k l', e, h)

  pub same_take : (k : ℕ) (l l' : List A) (j : ℕ) → take k l ≡ take k l' → j ≤ k → take j l ≡ take j l'
  same_take k l l' j e h = sym (take-take j k l h) ∙ ap (λ (r : List A). take j r) e ∙ take-take j k l' h

  pub same_at : (k : ℕ) (l l' : List A) (i : ℕ) → take k l ≡ take k l' → i < k → get_elem? l i ≡ get_elem? l' i
  same_at k l l' i e h = sym (get_elem?_take k i l h) ∙ ap (λ (r : List A). get_elem? r i) e ∙ get_elem?_take k i l' h

  pub same_list : (l l' : List A) → ((k : ℕ) → take k l ≡ take k l') → l ≡ l'
  same_list l l' f = sym (take_all (length l + length l') l (omega arith)) ∙ f (length l + length l') ∙ take_all (length l + length l') l' (omega arith)

  pub at_inside : (l : List A) (i : ℕ) (a : A) → get_elem? l i ≡ some a → i < length l
  at_inside [] i a h = absurd (none-ne-some a h)
  at_inside (x ∷ l) zero a h = omega arith
  at_inside (x ∷ l) (suc i) a h = suc-le-suc (at_inside l i a h)

  pub at_left : (l r : List A) (i : ℕ) (a : A) → get_elem? l i ≡ some a → get_elem? (l ++ r) i ≡ some a
  at_left [] r i a h = absurd (none-ne-some a h)
  at_left (x ∷ l) r zero a h = h
  at_left (x ∷ l) r (suc i) a h = at_left l r i a h

  pub at_seam : (l : List A) (a : A) (r : List A) → get_elem? (l ++ a ∷ r) (length l) ≡ some a
  at_seam [] a r = refl
  at_seam (x ∷ l) a r = at_seam l a r

  pub at_seam_suc : (l : List A) (a b : A) (r : List A) → get_elem? (l ++ a ∷ b ∷ r) (suc (length l)) ≡ some b
  at_seam_suc [] a b r = refl
  at_seam_suc (x ∷ l) a b r = at_seam_suc l a b r

  pub at_back : (l r : List A) (i : ℕ) → i < length l → get_elem? (l ++ r) i ≡ get_elem? l i
  at_back [] r i h = absurd (not-suc-le-zero h)
  at_back (x ∷ l) r zero h = refl
  at_back (x ∷ l) r (suc i) h = at_back l r i (le_of_suc-le-suc h)

  -- an element of l ++ r stands in l, or in r so many places further
  shift_split : (x : A) (l r : List A) (i : ℕ) (a : A)
      → (get_elem? l i ≡ some a) ⊎ ((d : ℕ) × (i ≡ length l + d) × (get_elem? r d ≡ some a))
      → (get_elem? l i ≡ some a) ⊎ ((d : ℕ) × (suc i ≡ suc (length l) + d) × (get_elem? r d ≡ some a))
  shift_split x l r i a (inl h) = inl h
  shift_split x l r i a (inr t) = inr (t.0, omega (arith, t.1), t.2)

  pub at_split : (l r : List A) (i : ℕ) (a : A) → get_elem? (l ++ r) i ≡ some a
      → (get_elem? l i ≡ some a) ⊎ ((d : ℕ) × (i ≡ length l + d) × (get_elem? r d ≡ some a))
  at_split [] r i a h = inr (i, omega arith, h)
  at_split (x ∷ l) r zero a h = inl h
  at_split (x ∷ l) r (suc i) a h = shift_split x l r i a (at_split l r i a h)

  -- one more element
  snoc_case : (l : List A) (b : A) (i : ℕ) (a : A)
      → (get_elem? l i ≡ some a) ⊎ ((d : ℕ) × (i ≡ length l + d) × (get_elem? (b ∷ []) d ≡ some a))
      → (get_elem? l i ≡ some a) ⊎ ((i ≡ length l) × (b ≡ a))
  snoc_case l b i a (inl h) = inl h
  snoc_case l b i a (inr t) = at t.0 t.1 t.2
    where
      at : (d : ℕ) → i ≡ length l + d → get_elem? (b ∷ []) d ≡ some a → (get_elem? l i ≡ some a) ⊎ ((i ≡ length l) × (b ≡ a))
      at zero e h = inr (omega arith, some-injective b a h)
      at (suc d) e h = absurd (none-ne-some a h)

  pub at_snoc : (l : List A) (b : A) (i : ℕ) (a : A) → get_elem? (l ++ b ∷ []) i ≡ some a → (get_elem? l i ≡ some a) ⊎ ((i ≡ length l) × (b ≡ a))
  at_snoc l b i a h = snoc_case l b i a (at_split l (b ∷ []) i a h)

  pub at_right : (l r : List A) (d : ℕ) (a : A) → get_elem? r d ≡ some a → get_elem? (l ++ r) (length l + d) ≡ some a
  at_right [] r d a h = let e : 0 + d ≡ d = omega arith in ap (get_elem? r) e ∙ h
  at_right (x ∷ l) r d a h = let e : suc (length l) + d ≡ suc (length l + d) = omega arith in ap (get_elem? (x ∷ (l ++ r))) e ∙ at_right l r d a h

  pub split_at : (l : List A) (k : ℕ) (a : A) → get_elem? l k ≡ some a → l ≡ take k l ++ a ∷ drop (suc k) l
  split_at [] k a h = absurd (none-ne-some a h)
  split_at (x ∷ l) zero a h = ap (λ (y : A). y ∷ l) (some-injective x a h)
  split_at (x ∷ l) (suc k) a h = ap (λ (r : List A). x ∷ r) (split_at l k a h)
