-- Each turn passes one and the same byte.
use borrow.Author.Rules.{rules}
use native.Mathlib.Omega.{arith}
use mathlib.Core.Path.{sym, ◌∙◌}
use Rattle.alike.proofs.Quick.{each_none, each_more, each_left, each_right, same_left}
use Rattle.alike.proofs.count_on.Goals as goal

pub loop-n-init : goal.loop-n-init
loop-n-init c = each_none _ _ _ _ _

pub overflow_add-i : goal.overflow_add-i
overflow_add-i c = omega (arith, each_left _ _ _ _ _ _ 18446744073709551615 c.loop-n.invariant (search rules) (search rules))

pub overflow_add-j : goal.overflow_add-j
overflow_add-j c = omega (arith, each_right _ _ _ _ _ _ 18446744073709551615 c.loop-n.invariant (search rules) (search rules))

pub overflow_add-n : goal.overflow_add-n
overflow_add-n c = omega (arith, same_left _ _ _ _ _ c.same_at.ensures c.loop-n-test.true)

pub loop-n-smaller : goal.loop-n-smaller
loop-n-smaller c = omega (arith, same_left _ _ _ _ _ c.same_at.ensures c.loop-n-test.true)

pub loop-n-preserved : goal.loop-n-preserved
loop-n-preserved c = each_more _ _ _ _ _ _ c.loop-n.invariant c.same_at.ensures c.loop-n-test.true

pub returns : goal.returns
returns c = record { each = c.loop-n.invariant; stops = sym c.same_at.ensures ∙ c.loop-n-test.false }
