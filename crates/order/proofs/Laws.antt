-- The order is one: a form is equal to itself alone, and what comes before comes before all that follows.
use Prim.Native.Nat.{ℕ, ◌≤◌, ◌<◌}
use native.Mathlib.Omega.{arith}
use mathlib.Core.Path.{◌≡◌, refl, sym, ap, ap₂, ◌∙◌}
use mathlib.Core.List.{List, [], ◌∷◌}
use borrow.Author.Tests.{ltb-true, ltb-false}
use lib.Dec.{ltb}
use Rattle.std.specs.declared.cmp.Ordering.{Ordering}
use Rattle.std.specs.declared.cmp.Ordering.TheVariants.{Less, Equal, Greater}
use Rattle.std.specs.Ordering.{nat_cmp, ordering_then, flip_args}
use Rattle.std.specs.Cmp.{IsTotalOrder}
use Rattle.std.specs.Cmp.Lexicographic.{slice_cmp}
use Rattle.std.proofs.lemmas.Cmp.{ranked, nat_cmp_total, back_total, lists_total, tied_itself}
use Rattle.scan.proofs.Test.{by}
use Rattle.order.specs.Order.{order, key, rank}
use Rattle.order.proofs.Heads.{head_less, head_greater, head_same}

-- ---- it is std's order of lists, with both the bytes and the lists the other way round
abbrev backwards : List ℕ → List ℕ → Ordering
backwards = slice_cmp (flip_args nat_cmp)

as_std : (s t : List ℕ) → order s t ≡ backwards t s
unfolding order
as_std [] [] = refl
as_std [] (y ∷ t) = refl
as_std (x ∷ s) [] = refl
as_std (x ∷ s) (y ∷ t) = ap (ordering_then (nat_cmp x y)) (as_std s t)

total : IsTotalOrder backwards
total = lists_total (back_total nat_cmp_total)

pub order_refl : (s : List ℕ) → order s s ≡ Equal
order_refl s = as_std s s ∙ tied_itself total s

pub order_less : (s t u : List ℕ) → order s t ≡ Less → order t u ≡ Less → order s u ≡ Less
order_less s t u e f = as_std s u ∙ total.trans u t s (sym (as_std t u) ∙ f) (sym (as_std s t) ∙ e)

-- a tie is one at the heads, and after them
tie : (o p : Ordering) → ordering_then o p ≡ Equal → (o ≡ Equal) × (p ≡ Equal)
tie Less p e = grind (arith, e)
tie Equal p e = (refl, e)
tie Greater p e = grind (arith, e)

pub order_equal : (s t : List ℕ) → order s t ≡ Equal → s ≡ t
unfolding order
order_equal [] [] e = refl
order_equal [] (y ∷ t) e = grind (arith, e)
order_equal (x ∷ s) [] e = grind (arith, e)
order_equal (x ∷ s) (y ∷ t) e =
    let h = tie (nat_cmp x y) (order s t) e in
    ap₂ (λ (a : ℕ) (l : List ℕ). a ∷ l) (ranked x y Equal (sym h.0)) (order_equal s t h.1)

-- ---- the same of the order by key first
pub rank_refl : (c : List ℕ) → rank c c ≡ Equal
unfolding rank
rank_refl c = order_refl (key c ∷ c)

tail : List ℕ → List ℕ
tail [] = []
tail (x ∷ s) = s

pub rank_equal : (c d : List ℕ) → rank c d ≡ Equal → c ≡ d
unfolding rank tail
rank_equal c d e = ap tail (order_equal (key c ∷ c) (key d ∷ d) e)

pub rank_less : (c d e : List ℕ) → rank c d ≡ Less → rank d e ≡ Less → rank c e ≡ Less
unfolding rank
rank_less c d e = order_less (key c ∷ c) (key d ∷ d) (key e ∷ e)

-- ---- by the keys alone
pub rank_below : (c d : List ℕ) → key c < key d → rank c d ≡ Less
unfolding rank
rank_below c d h = head_less (key c) (key d) c d h

pub rank_above : (c d : List ℕ) → key d < key c → rank c d ≡ Greater
unfolding rank
rank_above c d h = head_greater (key c) (key d) c d h

pub rank_level : (c d : List ℕ) → key c ≡ key d → rank c d ≡ order c d
unfolding rank
rank_level c d e = rw e (head_same (key d) c d)

-- what is not greater has no greater key
pub rank_keys : (c d : List ℕ) → rank c d ≡ Less → key c ≤ key d
rank_keys c d e =
    by (ltb (key d) (key c))
    (λ g. let w : ◌≡◌ {A = Ordering} Greater Less = sym (rank_above c d (ltb-true (key d) (key c) g)) ∙ e in grind (arith, w))
    (λ g. ltb-false (key d) (key c) g)
