-- The two stores are one part put.
use Rattle.rows.proofs.Put.{put_two}
use Rattle.row.proofs.store_range.Goals as goal

pub returns : goal.returns
returns c = put_two _ _ _ _ c.requires.at_in_bounds
