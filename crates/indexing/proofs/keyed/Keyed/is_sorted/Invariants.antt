use Prim.Native.Nat.{ℕ, ◌<◌}
use Rattle.indexing.specs.Rows.{FollowsIn}
use Rattle.indexing.proofs.keyed.Keyed.is_sorted.Given as goal

abbrev pub invariant-loop-p : goal.invariant-loop-p
invariant-loop-p l = (k : ℕ) → k < l.p → FollowsIn l.self.definitions.now l.index k
