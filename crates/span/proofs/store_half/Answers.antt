-- The number and the two parts put one after the other are one put.
use Rattle.span.proofs.Put.{half_put}
use Rattle.span.proofs.store_half.Goals as goal

pub returns : goal.returns
returns c =
    let a = c.args in
    half_put _ a.at a.n a.a a.b c.requires.at_in_bounds c.store_range.ensures c.store_range-2.ensures
