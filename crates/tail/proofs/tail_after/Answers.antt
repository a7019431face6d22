-- An inline tail decides; where there is none, the reference.
use Rattle.std.proofs.Common.{sym, ◌∙◌}
use Rattle.tail.proofs.Tails.{tail_by_lem}
use Rattle.tail.proofs.tail_after.Goals as goal

pub returns-in-Some-clause-by_index : goal.returns-in-Some-clause-by_index
returns-in-Some-clause-by_index c = let a = c.args in λ at. tail_by_lem a.definitions.now a.text.now a.rest.now at _ (sym c.inline_tail.ensures.value ∙ c.in-Some.is)

pub returns-in-None-clause-by_index : goal.returns-in-None-clause-by_index
returns-in-None-clause-by_index c =
    let a = c.args in
    λ at. c.reference.ensures.by_index at ∙ tail_by_lem a.definitions.now a.text.now a.rest.now at _ (sym c.inline_tail.ensures.value ∙ c.in-None.is)
