-- Each turn puts the next run into the table; at the end of the text an empty one, into place 0.
use native.Mathlib.Omega.{arith}
use Rattle.inline.specs.Pieces.{backtick}
use Rattle.ticks.proofs.Past.{past_low, within, further}
use Rattle.ticks.proofs.Passing.{begins, turn, all_seen}
use Rattle.ticks.proofs.last_runs.Goals as goal

pub loop-i-init : goal.loop-i-init
loop-i-init c = rw c.requires.cleared (begins c.args.p.now)

pub overflow_sub-e : goal.overflow_sub-e
overflow_sub-e c =
    omega (arith, c.backticks_end-e.ensures, past_low backtick c.args.p.now c.next_backtick-a.result)

pub put-requires : goal.put-requires
put-requires c =
    let h = within c.args.p.now c.loop-i.i c.loop-i-test.true c.next_backtick-a.ensures c.backticks_end-e.ensures in record {
      table_len = c.loop-i.invariant.size;
      e_bound = omega (arith, c.requires.p_len_bound);
    }

pub loop-i-smaller : goal.loop-i-smaller
loop-i-smaller c =
    omega (arith, further c.args.p.now c.loop-i.i c.loop-i-test.true c.next_backtick-a.ensures c.backticks_end-e.ensures)

pub loop-i-preserved : goal.loop-i-preserved
loop-i-preserved c =
    turn c.args.p.now c.loop-i.i c.loop-i.table c.loop-i.invariant c.next_backtick-a.ensures c.backticks_end-e.ensures c.put.ensures

pub returns : goal.returns
returns c = all_seen c.args.p.now c.loop-i.i c.loop-i.table c.loop-i.invariant c.loop-i-test.false
