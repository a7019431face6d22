-- Each turn passes a line.
use Rattle.line.proofs.Lines.{onward, next_before}
use Rattle.line.proofs.line_at.Goals as goal

pub loop-end-smaller : goal.loop-end-smaller
loop-end-smaller c = onward c.loop-end.invariant c.loop-end-test.true c.requires.place_in_bounds c.line_end-end.ensures

pub loop-end-preserved : goal.loop-end-preserved
loop-end-preserved c = next_before c.loop-end.invariant c.loop-end-test.true c.requires.place_in_bounds c.line_end-end.ensures
