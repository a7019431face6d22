-- Each turn passes an escape, or a byte that is no bracket and the plain bytes after it.
use Rattle.std.proofs.Common.{arith, ◌+◌}
use Rattle.label.proofs.Unclosed.{stands, over_plain, over_escape, over_byte, plain_on, stopped, told}
use Rattle.label.proofs.ends_unclosed.Goals as goal

pub loop-i-init : goal.loop-i-init
loop-i-init c = stands c.args.l.now

pub returns-then-b : goal.returns-then-b
returns-then-b c = stopped c.args.l.now c.loop-i.i c.loop-i-test.true c.if-b.true c.loop-i.invariant

pub loop-i-preserved-then-escape_in : goal.loop-i-preserved-then-escape_in
loop-i-preserved-then-escape_in c =
    over_escape c.args.l.now c.loop-i.i c.loop-i-test.true c.if-b.false c.loop-i.invariant c.escape_in.ensures c.if-escape_in.true

pub loop-i-smaller : goal.loop-i-smaller
loop-i-smaller c = let on = plain_on c.args.l.now c.loop-i.i c.plain_end-i.ensures in omega (arith, c.loop-i-test.true)

pub loop-i-preserved : goal.loop-i-preserved
loop-i-preserved c =
    over_plain c.args.l.now (c.loop-i.i + 1) c.plain_end-i.ensures
    (over_byte c.args.l.now c.loop-i.i c.loop-i-test.true c.if-b.false c.loop-i.invariant c.escape_in.ensures c.if-escape_in.false)

pub returns : goal.returns
returns c = told c.args.l.now c.loop-i.i (omega arith) c.loop-i.invariant
