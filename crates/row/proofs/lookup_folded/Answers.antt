-- The rows from row k on give what those from the first on do.
use mathlib.Core.Path.{refl, sym, ◌∙◌}
use Rattle.row.proofs.Turn.{row_hit, row_miss, row_none}
use Rattle.row.proofs.lookup_folded.Goals as goal

pub loop-k-init : goal.loop-k-init
loop-k-init c = refl

pub returns-then-same_folded : goal.returns-then-same_folded
returns-then-same_folded c = row_hit _ _ _ c.loop-k.invariant c.loop-k-test.true c.label.ensures (sym c.same_folded.ensures ∙ c.if-same_folded.true)

pub loop-k-preserved : goal.loop-k-preserved
loop-k-preserved c = row_miss _ _ _ c.loop-k.invariant c.loop-k-test.true c.label.ensures (sym c.same_folded.ensures ∙ c.if-same_folded.false)

pub returns : goal.returns
returns c = row_none _ _ _ c.loop-k.invariant c.loop-k-test.false
