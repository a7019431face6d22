use Prim.Native.Nat.{ℕ, ◌<◌}
use Rattle.index.specs.Index.{Stands}
use Rattle.indexing.proofs.is_whole.Given as goal

abbrev pub invariant-loop-k : goal.invariant-loop-k
invariant-loop-k l = (k : ℕ) → k < l.k → Stands l.count l.index k
