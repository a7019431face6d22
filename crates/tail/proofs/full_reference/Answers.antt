-- The tail by what the lookup finds.
use Rattle.std.proofs.Common.{sym, ◌∙◌}
use Rattle.tail.proofs.Tails.{full_by_lem}
use Rattle.tail.proofs.full_reference.Goals as goal

pub returns-in_err-k-clause-by_index : goal.returns-in_err-k-clause-by_index
returns-in_err-k-clause-by_index c = λ at. rw c.from_residual.ensures (full_by_lem c.args.definitions.now _ _ _ (sym c.find.ensures.value ∙ c.in_err-k.was))

pub returns-clause-by_index : goal.returns-clause-by_index
returns-clause-by_index c = λ at. full_by_lem c.args.definitions.now _ _ _ (sym c.find.ensures.value ∙ c.in_ok-k.was)
