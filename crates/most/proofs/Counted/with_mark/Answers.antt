-- The record is `with_mark`, field by field.
use Rattle.most.specs.Counting.{with_mark}
use Rattle.most.proofs.Passing.{one_if}
use Rattle.most.proofs.Counted.with_mark.Goals as goal

pub returns : goal.returns
unfolding with_mark
returns c = rw (with_mark, c.from.ensures, c.ends_mark.ensures, c.from-2.ensures, one_if, one_if)
