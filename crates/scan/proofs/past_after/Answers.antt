-- The items that were passed one by one, and then the rest.
use Rattle.std.proofs.Common.{rules, ◌∙◌}
use Rattle.scan.proofs.Scan.{passed_item, stopped_item, past_whole}
use Rattle.scan.proofs.past_after.Goals as goal

pub returns-then-not-holds : goal.returns-then-not-holds
returns-then-not-holds g c = search (stopped_item, rules)

pub returns-then-i-at : goal.returns-then-i-at
returns-then-i-at g c = c.past_long.ensures ∙ search (passed_item, rules)

pub loop-i-preserved : goal.loop-i-preserved
loop-i-preserved g c = search (passed_item, rules)

pub returns : goal.returns
returns g c = search (past_whole, rules)
