-- Each part is what its call gave.
use Rattle.row.proofs.definition_at.Goals as goal

pub returns : goal.returns
returns c = cc
