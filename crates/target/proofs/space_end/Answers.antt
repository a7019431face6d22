-- The loop's state is the definition's state, and each way through a turn is one case of `space_from`.
use borrow.Author.Rules.{rules}
use Rattle.target.proofs.Turns.{space_on, space_stop, space_whole}
use Rattle.target.proofs.space_end.Goals as goal

ruleset turns = (space_on, space_stop, space_whole, rules)

pub returns-then-is_blank-line : goal.returns-then-is_blank-line
returns-then-is_blank-line c = search turns

pub loop-i-preserved : goal.loop-i-preserved
loop-i-preserved c = search turns

pub returns : goal.returns
returns c = search turns
