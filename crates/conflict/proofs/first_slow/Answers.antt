-- Each turn passes a definition that does not conflict.
use Rattle.row.specs.Listing.{texts_of}
use Rattle.conflict.proofs.Turns.{none_before, next_none, found_here, none_left}
use Rattle.conflict.proofs.first_slow.Goals as goal

pub loop-k-init : goal.loop-k-init
loop-k-init c = none_before (texts_of c.args.d.now) c.requires.count

pub returns-then-row_conflicts : goal.returns-then-row_conflicts
returns-then-row_conflicts c = found_here (texts_of c.args.d.now) c.loop-k.invariant c.loop-k-test.true c.row_conflicts.ensures c.if-row_conflicts.true

pub loop-k-preserved : goal.loop-k-preserved
loop-k-preserved c = next_none (texts_of c.args.d.now) c.loop-k.invariant c.loop-k-test.true c.row_conflicts.ensures c.if-row_conflicts.false

pub returns : goal.returns
returns c = none_left (texts_of c.args.d.now) c.loop-k.invariant c.loop-k-test.false
