-- What is left of both from a place in each has the bytes that stand there.
use native.Mathlib.Omega.{arith}
use Rattle.alike.proofs.Quick.{same_left, same_right}
use Rattle.alike.proofs.Counting.{count_none, count_rest}
use Rattle.alike.proofs.same_count.Goals as goal

pub returns-then-not-same_at : goal.returns-then-not-same_at
returns-then-not-same_at c = count_none _ _ _ _ _ c.same_at.ensures c.if-not-same_at.true

pub slice_bounds-count_on-count : goal.slice_bounds-count_on-count
slice_bounds-count_on-count c = omega (arith, same_left _ _ _ _ _ c.same_at.ensures c.if-not-same_at.false)

pub slice_bounds-count_on-start : goal.slice_bounds-count_on-start
slice_bounds-count_on-start c = omega (arith, same_left _ _ _ _ _ c.same_at.ensures c.if-not-same_at.false)

pub slice_bounds-count_on-count-2 : goal.slice_bounds-count_on-count-2
slice_bounds-count_on-count-2 c = omega (arith, same_right _ _ _ _ _ c.same_at.ensures c.if-not-same_at.false)

pub slice_bounds-count_on-start-2 : goal.slice_bounds-count_on-start-2
slice_bounds-count_on-start-2 c = omega (arith, same_right _ _ _ _ _ c.same_at.ensures c.if-not-same_at.false)

pub returns : goal.returns
returns c = count_rest _ _ _ _ _ c.count_on.ensures
