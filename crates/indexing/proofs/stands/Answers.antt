-- The row of the entry at that place is k.
use mathlib.Core.Path.{sym}
use mathlib.Core.Bool.{true≢false}
use Rattle.indexing.proofs.Turn.{stands_at}
use Rattle.indexing.proofs.stands.Goals as goal

pub returns-then-count-p : goal.returns-then-count-p
returns-then-count-p c = λ e. absurd (true≢false (sym e))

pub returns : goal.returns
returns c = stands_at _ _ _ _ c.if-count-p.false c.row.ensures
