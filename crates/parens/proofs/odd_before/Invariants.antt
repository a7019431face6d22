use Prim.Native.Nat.{◌≤◌}
use mathlib.Core.Path.{◌≡◌}
use Rattle.parens.specs.Unclosed.{slashed}
use Rattle.parens.proofs.Slashes.{flip}
use Rattle.parens.proofs.odd_before.Given as goal

abbrev pub invariant-loop-k : goal.invariant-loop-k
invariant-loop-k l = (l.k ≤ l.i) × (flip l.odd (slashed l.s l.k) ≡ slashed l.s l.i)
