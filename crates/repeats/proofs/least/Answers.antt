-- Either the row at this place is the least so far, or what was so is.
use mathlib.Core.Path.{ap, ◌∙◌}
use Rattle.index.specs.Index.{row_in}
use Rattle.repeats.proofs.Turns.{next_more, next_less, next_same}
use Rattle.repeats.proofs.least.Goals as goal

pub returns-then-best-k : goal.returns-then-best-k
returns-then-best-k c = next_more _ _ _ c.requires.least (c.row-k.ensures ∙ ap row_in c.entry.ensures) c.if-best-k.true

pub row_conflicts-requires-clause-k_value : goal.row_conflicts-requires-clause-k_value
row_conflicts-requires-clause-k_value c = c.row-k.ensures ∙ ap row_in c.entry.ensures

pub returns-then-row_conflicts : goal.returns-then-row_conflicts
returns-then-row_conflicts c = next_less _ _ _ c.requires.least (c.row-k.ensures ∙ ap row_in c.entry.ensures) c.row_conflicts.ensures c.if-best-k.false c.if-row_conflicts.true

pub returns : goal.returns
returns c = next_same _ _ _ c.requires.least (c.row-k.ensures ∙ ap row_in c.entry.ensures) c.row_conflicts.ensures c.if-row_conflicts.false
