-- The answer is the formula `unlike` itself, over what the calls gave.
use Rattle.alike.specs.Reading.{unlike}
use Rattle.alike.proofs.are_unlike.Goals as goal

pub returns : goal.returns
unfolding unlike
returns c = simp (c.lowered.ensures, c.lowered-2.ensures)
