use Rattle.std.proofs.Common.{rules}
use native.Mathlib.Omega.{arith}
use Rattle.walk.specs.Promise.{FirstBlock}
use Rattle.walk.proofs.Steps.{all_taken, paragraph_here}
use Rattle.walk.proofs.next_paragraph.Goals as goal

pub returns-then-start-block : goal.returns-then-start-block
returns-then-start-block c =
    paragraph_here c.args.note.now c.args.at c.loop-block.i c.loop-block.invariant.1 c.in_ok-block.ensures c.block_rest-start.ensures c.loop-block.invariant.0 (omega arith) c.paragraph_end.ensures

pub loop-block-preserved : goal.loop-block-preserved
loop-block-preserved c =
    let f : FirstBlock c.args.note.now c.loop-block.i c.in_ok-block.block.start c.in_ok-block.block.end = c.in_ok-block.ensures in
    (omega (arith, f.low, f.nonempty), all_taken c.args.note.now c.args.at c.loop-block.i c.loop-block.invariant.1 f c.block_rest-start.ensures (omega arith))
