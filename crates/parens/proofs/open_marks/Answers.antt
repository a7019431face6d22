-- Each turn counts and marks one byte more, from the right.
use borrow.Author.Rules.{rules}
use Rattle.parens.proofs.Filling.{begins, turn, all_filled}
use Rattle.parens.proofs.open_marks.Goals as goal

pub loop-i-init : goal.loop-i-init
loop-i-init c = search (begins, rules)

pub loop-i-preserved : goal.loop-i-preserved
loop-i-preserved c = search (turn, rules)

pub returns : goal.returns
returns c = search (all_filled, rules)
