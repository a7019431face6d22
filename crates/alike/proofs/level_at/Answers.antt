-- The answer is the formula `level` itself, over what the calls gave.
use Rattle.alike.specs.Reading.{level}
use Rattle.alike.proofs.level_at.Goals as goal

pub returns : goal.returns
unfolding level
returns c = simp (c.gap_before.ensures, c.gap_before-2.ensures)
