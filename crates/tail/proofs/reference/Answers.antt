-- The label that follows decides; it lies within what follows.
use Rattle.std.proofs.Common.{arith, sym, ◌∙◌}
use Rattle.tail.proofs.Tails.{reference_by_lem, full_reference_by, length_inside, length_none}
use Rattle.tail.proofs.reference.Goals as goal

pub slice_bounds-full_reference-count : goal.slice_bounds-full_reference-count
slice_bounds-full_reference-count c = let q = length_inside c.args.rest.now _ (sym c.label_after.ensures ∙ c.in-Some.is) in omega (arith, q.0)

pub slice_bounds-full_reference-start : goal.slice_bounds-full_reference-start
slice_bounds-full_reference-start c = let q = length_inside c.args.rest.now _ (sym c.label_after.ensures ∙ c.in-Some.is) in omega (arith, q.0)

pub slice_bounds-full_reference-end : goal.slice_bounds-full_reference-end
slice_bounds-full_reference-end c = let q = length_inside c.args.rest.now _ (sym c.label_after.ensures ∙ c.in-Some.is) in omega (arith, q.0, q.1)

pub returns-in-Some-clause-by_index : goal.returns-in-Some-clause-by_index
returns-in-Some-clause-by_index c =
    let a = c.args in
    let q = length_inside a.rest.now _ (sym c.label_after.ensures ∙ c.in-Some.is) in
    λ at. c.full_reference.ensures.by_index at ∙ full_reference_by a.definitions.now a.text.now a.rest.now _ q.0 q.2

pub returns-in-None-clause-by_index : goal.returns-in-None-clause-by_index
returns-in-None-clause-by_index c =
    λ at. c.text_reference.ensures.by_index at ∙ reference_by_lem c.args.definitions.now _ _ _ (length_none _ (sym c.label_after.ensures ∙ c.in-None.is))
