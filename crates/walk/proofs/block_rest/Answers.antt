use Rattle.std.proofs.Common.{rules}
use Rattle.walk.proofs.Steps.{rest_less, rest_on}
use Rattle.walk.proofs.block_rest.Goals as goal

pub loop-entry-smaller : goal.loop-entry-smaller
loop-entry-smaller c = search (rest_less, rules)

pub loop-entry-preserved : goal.loop-entry-preserved
loop-entry-preserved c = search (rest_on, rules)
