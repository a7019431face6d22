-- What is left of the two forms stands as at first; a turn takes one byte off each.
use Rattle.ranking.proofs.Turn.{turn_other, turn_same, turn_end, turn_longer, turn_shorter}
use Rattle.ranking.proofs.compare_by_table.Goals as goal

pub returns-then-x-y : goal.returns-then-x-y
returns-then-x-y c = let s = c.in-Some-Some in turn_other c.loop-x.invariant s.ensures.steps s.ensures'.steps c.if-x-y.true c.cmp.ensures

pub loop-x-preserved : goal.loop-x-preserved
loop-x-preserved c = let s = c.in-Some-Some in turn_same c.loop-x.invariant s.ensures.steps s.ensures'.steps c.if-x-y.false

pub returns-in-Some-None : goal.returns-in-Some-None
returns-in-Some-None c = let s = c.in-Some-None in turn_longer c.loop-x.invariant (rw s.is-0 at c.next.ensures.steps) (rw s.is-1 at c.next-in-loop-x.ensures.steps).0

pub returns-in-None-Some : goal.returns-in-None-Some
returns-in-None-Some c = let s = c.in-None-Some in turn_shorter c.loop-x.invariant (rw s.is-0 at c.next.ensures.steps).0 (rw s.is-1 at c.next-in-loop-x.ensures.steps)

pub returns-in-None-None : goal.returns-in-None-None
returns-in-None-None c = let s = c.in-None-None in turn_end c.loop-x.invariant (rw s.is-0 at c.next.ensures.steps).0 (rw s.is-1 at c.next-in-loop-x.ensures.steps).0
