use Prim.Native.Nat.{◌<◌, ◌^◌}
use mathlib.Core.Path.{◌≡◌}
use lib.ListN.{length}
use Rattle.matching.specs.Reading.{equals}
use Rattle.alike.specs.Left.{form_from}
use Rattle.alike.proofs.same_from.Given as goal

abbrev pub invariant-loop-x : goal.invariant-loop-x
invariant-loop-x l = (l.i < 2 ^ 64) × (l.j < 2 ^ 64) × (equals (form_from l.a l.i) (form_from l.b l.j) ≡ equals (form_from l.a l.from) (form_from l.b l.to))

abbrev pub decreases-loop-x : goal.decreases-loop-x
decreases-loop-x l = length (form_from l.a l.i)
