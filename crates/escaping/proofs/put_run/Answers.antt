-- The run is put, or there is none.
use Rattle.buffer.proofs.Writing.{nothing}
use Rattle.escaping.proofs.AsIs.{front_taken, front_empty, front_inside}
use Rattle.escaping.proofs.put_run.Goals as goal

pub slice_bounds-put-end : goal.slice_bounds-put-end
slice_bounds-put-end c = front_inside c.args.mark c.args.s.now c.args.at c.as_is_end-end.ensures c.if-at-end.true

pub put-requires : goal.put-requires
put-requires c = rw (front_taken c.args.mark c.args.s.now c.args.at c.as_is_end-end.ensures) c.requires

pub returns-then-at-end-clause-grows : goal.returns-then-at-end-clause-grows
returns-then-at-end-clause-grows c = rw (front_taken c.args.mark c.args.s.now c.args.at c.as_is_end-end.ensures) at c.put.ensures

pub returns-else-at-end-clause-grows : goal.returns-else-at-end-clause-grows
returns-else-at-end-clause-grows c = rw (front_empty c.args.mark c.args.s.now c.args.at c.as_is_end-end.ensures c.if-at-end.false) nothing
