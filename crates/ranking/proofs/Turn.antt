-- The ways through a turn with the table: the forms f and g gave a byte each and l and m are left, or one of them is over.
use Prim.Native.Nat.{ℕ}
use mathlib.Core.Path.{◌≡◌, sym, ◌∙◌}
use mathlib.Core.List.{List, [], ◌∷◌}
use Rattle.std.specs.declared.cmp.Ordering.{Ordering}
use Rattle.std.specs.declared.cmp.Ordering.TheVariants.{Less, Equal, Greater}
use Rattle.std.specs.Ordering.{nat_cmp}
use Rattle.std.proofs.lemmas.Cmp.{ranked}
use Rattle.order.specs.Order.{order, mix, mixed}
use Rattle.order.proofs.Heads.{head_less, head_greater, head_same}

module _ {f g : List ℕ} {r : Ordering} (inv : order f g ≡ r) where
  module _ {x y : ℕ} {l m : List ℕ} (ef : f ≡ x ∷ l) (eg : g ≡ y ∷ m) where
    both : order (x ∷ l) (y ∷ m) ≡ r
    both = rw (← ef, ← eg) inv

    pub turn_other : (x ≡ y → ⊥) → {o : Ordering} → o ≡ nat_cmp x y → o ≡ r
    turn_other n {o} e = go o e
      where
        go : (o : Ordering) → o ≡ nat_cmp x y → o ≡ r
        go Less e = sym (head_less x y l m (ranked x y Less e)) ∙ both
        go Equal e = absurd (n (ranked x y Equal e))
        go Greater e = sym (head_greater x y l m (ranked x y Greater e)) ∙ both

    pub turn_same : x ≡ y → order l m ≡ r
    turn_same q = sym (head_same x l m) ∙ (rw (← q) at both)

  pub turn_end : f ≡ [] → g ≡ [] → Equal ≡ r
  unfolding order
  turn_end ef eg = rw (ef, eg) at inv

  pub turn_longer : {x : ℕ} {l : List ℕ} → f ≡ x ∷ l → g ≡ [] → Less ≡ r
  unfolding order
  turn_longer ef eg = rw (ef, eg) at inv

  pub turn_shorter : {y : ℕ} {m : List ℕ} → f ≡ [] → g ≡ y ∷ m → Greater ≡ r
  unfolding order
  turn_shorter ef eg = rw (ef, eg) at inv

-- ---- the key
module _ {f : List ℕ} (h : ℕ) {r : ℕ} (inv : mixed h f ≡ r) where
  pub key_end : f ≡ [] → h ≡ r
  unfolding mixed
  key_end e = rw e at inv

  pub key_on : {x : ℕ} {l : List ℕ} → f ≡ x ∷ l → {g : ℕ} → g ≡ mix h x → mixed g l ≡ r
  unfolding mixed
  key_on ef e = rw e (rw ef at inv)
