-- The key of the entry before `lo` is less.
use mathlib.Core.Path.{refl}
use Rattle.searching.proofs.Turn.{front_shown}
use Rattle.searching.proofs.front_is_less.Goals as goal

pub returns : goal.returns
returns c =
    let r = c.requires in
    front_shown r.sorted _ r.h_value _ r.lo_le_count c.if-lo-eq0.false refl c.key_at.ensures
