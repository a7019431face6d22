-- The bytes that both labels start with are passed; those after them tell, or the table does.
use mathlib.Core.Path.{◌∙◌}
use Rattle.ranking.proofs.Plain.{order_passed, order_bytes}
use Rattle.ranking.proofs.compare.Goals as goal

pub returns-then-are_unlike : goal.returns-then-are_unlike
returns-then-are_unlike c = order_bytes _ _ c.same_count-n.ensures c.peek-x.ensures c.peek-y.ensures c.are_unlike.ensures c.if-are_unlike.true c.lowered.ensures c.lowered-then-are_unlike.ensures c.cmp.ensures

pub returns : goal.returns
returns c = c.compare_by_table.ensures ∙ order_passed _ _ c.same_count-n.ensures
