-- Each `return` is one case of `label_length`; the label lies within what follows.
use Rattle.std.proofs.Common.{arith, sym, ap, ◌∙◌}
use Rattle.inline.proofs.TailBounds.{label_inside}
use Rattle.tail.specs.Ending.{length_to}
use Rattle.tail.proofs.Tails.{label_from, length_from, no_label_from}
use Rattle.tail.proofs.label_after.Goals as goal

pub returns-then-peek-ne91 : goal.returns-then-peek-ne91
returns-then-peek-ne91 c = no_label_from _ c.peek.ensures c.if-peek-ne91.true

pub returns-in_err-label_end : goal.returns-in_err-label_end
returns-in_err-label_end c = rw c.from_residual.ensures (ap length_to (sym c.in_err-label_end.was) ∙ length_from _ c.peek.ensures c.if-peek-ne91.false c.label_end.ensures)

pub overflow_add-result : goal.overflow_add-result
overflow_add-result c =
    let s = c.args.rest.now in
    let q = label_inside s _ (sym (label_from s c.peek.ensures c.if-peek-ne91.false c.label_end.ensures) ∙ c.in_ok-label_end.was) in omega arith

pub returns : goal.returns
returns c = ap length_to (sym c.in_ok-label_end.was) ∙ length_from _ c.peek.ensures c.if-peek-ne91.false c.label_end.ensures
