-- The place past the run is the same from past the strides on.
use Rattle.std.proofs.Common.{refl, ◌∙◌}
use Rattle.escaping.proofs.AsIs.{as_is_none, as_is_strides}
use Rattle.escaping.proofs.as_is_end.Goals as goal

pub returns-then-not-holds : goal.returns-then-not-holds
returns-then-not-holds c = as_is_none c.args.mark c.args.s.now c.args.at c.peek.ensures c.holds.ensures (rw c.if-not-holds.true refl)

pub returns : goal.returns
returns c = c.past.ensures ∙ as_is_strides c.args.mark c.args.s.now c.args.at c.past_strides-near.ensures
