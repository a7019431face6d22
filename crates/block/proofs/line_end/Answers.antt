-- An LF at once, or the end of a run of other bytes.
use Rattle.block.proofs.Turns.{feed_taken, text_ended, empty_line, line_past}
use Rattle.std.proofs.Common.{arith}
use Rattle.block.proofs.line_end.Goals as goal

pub returns-then-peek-eq10 : goal.returns-then-peek-eq10
returns-then-peek-eq10 c = empty_line c.args.s.now c.args.at c.peek.ensures c.if-peek-eq10.true

pub returns-then-end-s : goal.returns-then-end-s
returns-then-end-s c = feed_taken c.args.s.now c.args.at (line_past c.args.s.now c.args.at c.past_strides-near.ensures c.past-end.ensures) c.if-end-s.true

pub returns : goal.returns
returns c = text_ended c.args.s.now c.args.at (line_past c.args.s.now c.args.at c.past_strides-near.ensures c.past-end.ensures) (omega arith)
