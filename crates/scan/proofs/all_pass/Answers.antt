use Rattle.std.proofs.Common.{rules}
use Rattle.scan.proofs.Strides.{one_more}
use Rattle.scan.proofs.all_pass.Goals as goal

pub loop-x-preserved : goal.loop-x-preserved
loop-x-preserved g c = search (one_more, rules)
