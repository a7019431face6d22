-- Each turn counts one byte.
use Rattle.std.proofs.Common.{arith, refl, ◌∙◌}
use Rattle.label.proofs.Fits.{front_none, front_more, front_few, front_whole, at_most_one}
use Rattle.label.proofs.character_count.Goals as goal

pub loop-b-init : goal.loop-b-init
loop-b-init c = front_none c.args.l.now

pub overflow_add-n : goal.overflow_add-n
overflow_add-n c = omega (arith, front_few c.args.l.now c.loop-b.b-index c.loop-b.invariant, at_most_one c.is_some.result)

pub loop-b-preserved : goal.loop-b-preserved
loop-b-preserved c = front_more c.args.l.now c.loop-b.b-index (omega arith) c.loop-b.invariant (c.from-n.ensures ∙ rw (c.is_some.ensures, c.sequence_length.ensures) refl)

pub returns : goal.returns
returns c = front_whole c.args.l.now c.loop-b.b-index (omega arith) c.loop-b.invariant
