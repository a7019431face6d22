-- A counted try leaves the index as it was, or builds it.
use native.Mathlib.Omega.{arith}
use Prim.Native.Nat.{◌+◌}
use Rattle.finding.proofs.Counted.{counted}
use Rattle.finding.proofs.count_try.Goals as goal

pub returns-then-tried-lt-PATIENCE : goal.returns-then-tried-lt-PATIENCE
returns-then-tried-lt-PATIENCE c = counted c.args.index.now (c.number_at-tried.result + 1) c.put.ensures (omega arith)
