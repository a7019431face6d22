-- The window narrows to one place, and what stands at its end was seen.
use Rattle.searching.proofs.Turn.{seen_none}
use Rattle.searching.proofs.bound.Goals as goal

pub loop-lo-init : goal.loop-lo-init
loop-lo-init c = let r = c.requires in record { window = r.window; seen = seen_none _ _ _ _ _ _ r.back }
