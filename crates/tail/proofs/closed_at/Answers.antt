-- Each `return` is one case of `closed_at`; a `)` that is found stands within the text, so that the place after it can be counted.
use Rattle.std.specs.Prelude.{None, Option}
use borrow.Author.Rules.{rules}
use borrow.Author.Tests.{ne_eqb}
use native.Mathlib.Omega.{arith}
use Prim.Native.Nat.{ℕ, ◌+◌, ◌<◌}
use mathlib.Core.Path.{◌≡◌}
use mathlib.Core.List.{List}
use lib.ListN.{length, get_or}
use Rattle.scan.proofs.Scan.{peek_inside}
use Rattle.row.specs.declared.Range.{Range}
use Rattle.inline.specs.ReadingTails.{parts, closed_at}
use Rattle.tail.proofs.closed_at.Goals as goal

module _ (s : List ℕ) (h : ℕ) {b : ℕ} (eb : b ≡ get_or s h 0) where
  inside : b ≡ 41 → h < length s
  inside e = peek_inside s h (λ z. omega arith)

  module _ (d t : Option Range) where
    closed_there : b ≡ 41 → parts (h + 1) d t ≡ closed_at s h d t
    unfolding closed_at
    closed_there e = simp (← eb, e)

    not_closed : (b ≡ 41 → ⊥) → None ≡ closed_at s h d t
    unfolding closed_at
    not_closed e = simp (← eb, ne_eqb b 41 e)

ruleset ways = (closed_there, not_closed, rules)

pub overflow_add-result : goal.overflow_add-result
overflow_add-result c = omega (arith, inside c.args.rest.now c.args.h c.peek.ensures c.if-peek-ne41.false)

pub returns-then-peek-ne41 : goal.returns-then-peek-ne41
returns-then-peek-ne41 c = search (ways, c.if-peek-ne41.true)

pub returns : goal.returns
returns c = search ways
