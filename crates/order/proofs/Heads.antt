-- How two lists stand by their first numbers.
use Prim.Native.Nat.{ℕ, ◌<◌}
use native.Mathlib.Omega.{arith}
use mathlib.Core.Path.{◌≡◌, ap}
use mathlib.Core.List.{List, ◌∷◌}
use Rattle.std.specs.declared.cmp.Ordering.{Ordering}
use Rattle.std.specs.declared.cmp.Ordering.TheVariants.{Less, Equal, Greater}
use Rattle.std.specs.Ordering.{nat_cmp, ordering_then}
use Rattle.std.proofs.lemmas.Bool.Decides.{nat_tests}
use Rattle.order.specs.Order.{order}

module _ (x y : ℕ) (s t : List ℕ) where
  by_head : (o : Ordering) → nat_cmp x y ≡ o → order (x ∷ s) (y ∷ t) ≡ ordering_then o (order s t)
  unfolding order
  by_head o e = ap (λ (o : Ordering). ordering_then o (order s t)) e

  pub head_less : x < y → order (x ∷ s) (y ∷ t) ≡ Less
  head_less h = by_head Less (grind (arith, nat_tests))

  pub head_greater : y < x → order (x ∷ s) (y ∷ t) ≡ Greater
  head_greater h = by_head Greater (grind (arith, nat_tests))

pub head_same : (x : ℕ) (s t : List ℕ) → order (x ∷ s) (x ∷ t) ≡ order s t
head_same x s t = by_head x x s t Equal (grind (arith, nat_tests))
