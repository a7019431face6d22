-- What the backslashes passed and those left make together.
use borrow.Author.Rules.{rules}
use Rattle.parens.proofs.Slashes.{step_slash, step_other, step_start}
use Rattle.parens.proofs.odd_before.Goals as goal

pub returns-then-s-k-ne92 : goal.returns-then-s-k-ne92
returns-then-s-k-ne92 c = search (step_other, rules)

pub loop-k-preserved : goal.loop-k-preserved
loop-k-preserved c = search (step_slash, rules)

pub returns : goal.returns
returns c = search (step_start, rules)
