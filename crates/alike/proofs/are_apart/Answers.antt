-- The answer is the formula `apart` itself, over what the calls gave.
use mathlib.Core.Path.{refl}
use Rattle.alike.specs.Reading.{apart}
use Rattle.alike.proofs.are_apart.Goals as goal

pub returns-then-is_beyond-lowered : goal.returns-then-is_beyond-lowered
unfolding apart
returns-then-is_beyond-lowered c = rw (← c.is_beyond.ensures, ← c.lowered.ensures, ← c.lowered-2.ensures, c.if-is_beyond-lowered.true) refl

pub returns : goal.returns
unfolding apart
returns c = rw (← c.is_beyond.ensures, ← c.lowered.ensures, ← c.lowered-2.ensures, c.if-is_beyond-lowered.false, ← c.level_at.ensures) refl
