-- What is left of the form mixes to the same; a turn takes one byte off.
use mathlib.Core.Path.{ap, ◌∙◌}
use Rattle.order.specs.Order.{front}
use Rattle.ranking.proofs.Turn.{key_on, key_end}
use Rattle.ranking.proofs.key_by_table.Goals as goal

pub loop-b-preserved : goal.loop-b-preserved
loop-b-preserved c = key_on c.loop-b.h c.loop-b.invariant c.in-Some.ensures.steps c.mixed_in-h.ensures

pub returns : goal.returns
returns c = c.front_of.ensures ∙ ap front (key_end c.loop-b.h c.loop-b.invariant (rw c.in-None.is at c.next.ensures.steps).0)
