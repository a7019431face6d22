-- The index is asked where its first number says that it holds the rows.
use mathlib.Core.Path.{sym, ◌∙◌}
use Rattle.finding.proofs.find.Goals as goal

pub invariant_of-rows : goal.invariant_of-rows
invariant_of-rows c = record { sorted = (c.requires.ready (sym c.number_at.ensures ∙ c.if-number_at.true)).sorted }

pub lookup-requires : goal.lookup-requires
lookup-requires c = (c.requires.ready (sym c.number_at.ensures ∙ c.if-number_at.true)).covers
