-- The first row that passes a test.
use Prim.Native.Nat.{ℕ, zero, suc}
use mathlib.Core.Path.{◌≡◌, refl, sym, ap, ◌∙◌, subst}
use mathlib.Core.Option.{Option, none, some, some-injective, none-ne-some}
use mathlib.Core.List.{List, [], ◌∷◌}
use mathlib.Core.Bool.{Bool, true, false}
use lib.ListN.{get_elem?}
use Rattle.scan.proofs.Test.{by}
use Rattle.scan.specs.Member.{In}
use Rattle.page.specs.Reading.{first_row}

pub none_if : (o : Option (List ℕ)) → ((r : List ℕ) → o ≡ some r → ⊥) → o ≡ none
none_if none f = refl
none_if (some r) f = absurd (f r refl)

-- by what is found
pub by_found : {P : Type 0} (o : Option (List ℕ)) → ((r : List ℕ) → o ≡ some r → P) → (o ≡ none → P) → P
by_found (some r) f g = f r refl
by_found none f g = g refl

module _ (test : List ℕ → Bool) where
  yes_first : (r : List ℕ) (rows : List (List ℕ)) → test r ≡ true → first_row test (r ∷ rows) ≡ some r
  unfolding first_row
  yes_first r rows t = rw (first_row, t)

  no_first : (r : List ℕ) (rows : List (List ℕ)) → test r ≡ false → first_row test (r ∷ rows) ≡ first_row test rows
  unfolding first_row
  no_first r rows t = rw (first_row, t)

  pub found_in : (rows : List (List ℕ)) (r : List ℕ) → first_row test rows ≡ some r → In r rows × (test r ≡ true)
  unfolding first_row
  found_in [] r e = absurd (none-ne-some r e)
  found_in (x ∷ rows) r e =
      by (test x)
      (λ t. let k : x ≡ r = some-injective x r (sym (yes_first x rows t) ∙ e) in ((0, ap {B = Option (List ℕ)} some k), subst (λ (y : List ℕ). test y ≡ true) k t))
      (λ f. let (i, t) = found_in rows r (sym (no_first x rows f) ∙ e) in ((suc i.0, i.1), t))

  none_in : (rows : List (List ℕ)) → first_row test rows ≡ none → (k : ℕ) (r : List ℕ) → get_elem? rows k ≡ some r → test r ≡ true → ⊥
  unfolding first_row
  none_in [] e k r h t = absurd (none-ne-some r h)
  none_in (x ∷ rows) e zero r h t = let g : test x ≡ true = ap test (some-injective x r h) ∙ t in none-ne-some x (sym e ∙ yes_first x rows g)
  none_in (x ∷ rows) e (suc k) r h t = by (test x) (λ g. none-ne-some x (sym e ∙ yes_first x rows g)) (λ f. none_in rows (sym (no_first x rows f) ∙ e) k r h t)

  pub not_found : (rows : List (List ℕ)) → first_row test rows ≡ none → (r : List ℕ) → In r rows → test r ≡ true → ⊥
  not_found rows e r i t = none_in rows e i.0 r i.1 t
