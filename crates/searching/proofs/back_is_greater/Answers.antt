-- The key of the entry at `hi` is greater.
use mathlib.Core.Path.{refl}
use Rattle.searching.proofs.Turn.{back_shown}
use Rattle.searching.proofs.back_is_greater.Goals as goal

pub returns : goal.returns
returns c =
    let r = c.requires in
    back_shown r.sorted _ r.h_value _ refl c.key_at.ensures
