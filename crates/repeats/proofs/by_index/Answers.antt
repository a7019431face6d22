-- The least row that conflicts, of those at the places passed.
use Rattle.repeats.proofs.Turns.{none_yet, least_first, none_first}
use Rattle.repeats.proofs.by_index.Goals as goal

pub loop-p-init : goal.loop-p-init
loop-p-init c = none_yet _ _ _

pub returns-then-best-count : goal.returns-then-best-count
returns-then-best-count c = let r = c.requires in least_first r.joined.count r.covers c.loop-p-test.false c.loop-p.invariant c.if-best-count.true

pub returns : goal.returns
returns c = let r = c.requires in none_first r.joined.count r.covers c.loop-p-test.false c.loop-p.invariant c.if-best-count.false
