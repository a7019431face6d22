-- What is left to search is the same at every place where the loop stands: past a run of another length.
use native.Mathlib.Omega.{arith}
use Rattle.inline.specs.Pieces.{backtick}
use Rattle.ticks.proofs.Past.{past_low, further}
use Rattle.ticks.proofs.Runs.{run_closes, run_passed, none_left}
use Rattle.ticks.proofs.closing_run.Goals as goal

pub overflow_sub-e : goal.overflow_sub-e
overflow_sub-e c = omega (arith, c.backticks_end-e.ensures, past_low backtick c.args.s.now c.next_backtick-a.result)

pub returns-then-e-a : goal.returns-then-e-a
returns-then-e-a c =
    run_closes c.args.n c.requires c.args.s.now c.loop-i.i c.loop-i.invariant c.next_backtick-a.ensures c.backticks_end-e.ensures c.if-e-a.true

pub loop-i-smaller : goal.loop-i-smaller
loop-i-smaller c =
    omega (arith, further c.args.s.now c.loop-i.i c.loop-i-test.true c.next_backtick-a.ensures c.backticks_end-e.ensures)

pub loop-i-preserved : goal.loop-i-preserved
loop-i-preserved c =
    run_passed c.args.n c.requires c.args.s.now c.loop-i.i c.loop-i.invariant c.next_backtick-a.ensures c.backticks_end-e.ensures c.if-e-a.false

pub returns : goal.returns
returns c =
    none_left c.args.n c.requires c.args.s.now c.loop-i.i c.loop-i.invariant c.loop-i-test.false
