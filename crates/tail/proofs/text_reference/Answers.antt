-- The tail by whether the text is a label, what the lookup finds, and whether `[]` follows.
use Rattle.std.proofs.Common.{true, false, refl, sym, ◌∙◌}
use Rattle.tail.proofs.Tails.{text_no_label, text_by}
use Rattle.tail.proofs.text_reference.Goals as goal

pub returns-then-not-is_label-clause-by_index : goal.returns-then-not-is_label-clause-by_index
returns-then-not-is_label-clause-by_index c = λ at. text_no_label c.args.definitions.now _ _ (sym c.is_label.ensures ∙ c.if-not-is_label.true)

pub returns-in_err-k-clause-by_index : goal.returns-in_err-k-clause-by_index
returns-in_err-k-clause-by_index c =
    λ at. rw c.from_residual.ensures (text_by c.args.definitions.now _ _ (sym c.is_label.ensures ∙ c.if-not-is_label.false) _ refl _ (sym c.find.ensures.value ∙ c.in_err-k.was))

pub returns-then-empty_after-clause-by_index : goal.returns-then-empty_after-clause-by_index
returns-then-empty_after-clause-by_index c =
    λ at. text_by c.args.definitions.now _ _ (sym c.is_label.ensures ∙ c.if-not-is_label.false) true (sym c.empty_after.ensures ∙ c.if-empty_after.true) _ (sym c.find.ensures.value ∙ c.in_ok-k.was)

pub returns-clause-by_index : goal.returns-clause-by_index
returns-clause-by_index c =
    λ at. text_by c.args.definitions.now _ _ (sym c.is_label.ensures ∙ c.if-not-is_label.false) false (sym c.empty_after.ensures ∙ c.if-empty_after.false) _ (sym c.find.ensures.value ∙ c.in_ok-k.was)
