-- That an index is in order can be shown in one way only, so a value may keep it.
use Rattle.std.specs.Prelude.{ℕ, ◌+◌, ◌<◌, ◌≤◌, ◌≡◌, List, length}
use native.Mathlib.Omega.{arith}
use mathlib.Core.Path.{sym, ◌∙◌}
use Rattle.std.specs.declared.cmp.Ordering.{Ordering}
use Rattle.std.specs.declared.cmp.Ordering.TheVariants.{Less, Equal}
use denote.Struct.Props.{props}
use Rattle.texts.specs.Texts.{Texts}
use Rattle.order.specs.Order.{rank}
use Rattle.order.proofs.Laws.{rank_refl}
use Rattle.index.specs.Index.{form_of, base, entry_at, row_at, IsEntry, Before, below, tied, Sorted}

module _ (T : Texts) (t : List ℕ) (k l : ℕ) where
  apart : rank (form_of T t k) (form_of T t l) ≡ Less → form_of T t k ≡ form_of T t l → ⊥
  apart a e = let z : ◌≡◌ {A = Ordering} Equal Less = sym (rank_refl (form_of T t l)) ∙ (rw e at a) in grind (arith, z)

  pub Before-prop : IsProp (Before T t k l)
  Before-prop (below a) (below b) = let p : IsProp (rank (form_of T t k) (form_of T t l) ≡ Less) = hlevel props in λ i. below (p a b i)
  Before-prop (below a) (tied e h) = absurd (apart a e)
  Before-prop (tied e h) (below b) = absurd (apart b e)
  Before-prop (tied e h) (tied f g) = let p : IsProp (form_of T t k ≡ form_of T t l) = hlevel props in let q : IsProp (k < l) = hlevel props in λ i. tied (p e f i) (q h g i)

IsEntry-prop : (T : Texts) (t : List ℕ) (count e : ℕ) → IsProp (IsEntry T t count e)
IsEntry-prop T t count e = hlevel props

pub Sorted-prop : (T : Texts) (t : List ℕ) (count : ℕ) (index : List ℕ) → IsProp (Sorted T t count index)
Sorted-prop T t count index = hlevel (props, Before-prop)
