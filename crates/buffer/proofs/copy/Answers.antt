-- Each turn copies one byte more.
use Rattle.std.proofs.Common.{arith}
use Rattle.buffer.proofs.Copying.{one_more, all_of}
use Rattle.buffer.proofs.copy.Goals as goal

pub loop-i-preserved : goal.loop-i-preserved
loop-i-preserved c =
    let m = one_more c.loop-i.to c.args.from.now c.loop-i.i c.loop-i.invariant.same_length c.loop-i.invariant.copied (omega arith) in
    record { same_length = m.0; copied = m.1 }

pub returns : goal.returns
returns c = all_of c.loop-i.to c.args.from.now c.loop-i.i c.loop-i.invariant.same_length c.loop-i.invariant.copied (omega arith)
