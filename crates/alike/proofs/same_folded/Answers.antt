-- From the start, what is left is all.
use mathlib.Core.Path.{◌∙◌}
use Rattle.alike.proofs.Turn.{begins}
use Rattle.alike.proofs.same_folded.Goals as goal

pub returns : goal.returns
returns c = c.same_from.ensures ∙ begins _ _
