use mathlib.Core.Path.{◌≡◌}
use Prim.Native.Nat.{◌-◌, ◌<◌, ◌^◌}
use lib.ListN.{length}
use Rattle.matching.specs.Reading.{equals, matches}
use Rattle.alike.specs.Left.{form_from}
use Rattle.alike.proofs.same_or_places.Given as goal

abbrev pub invariant-loop-x : goal.invariant-loop-x
invariant-loop-x l = (length l.a < 2 ^ 64) × (length l.b < 2 ^ 64) × (equals (form_from l.a l.i) (form_from l.b l.j) ≡ matches l.a l.b)

abbrev pub decreases-loop-x : goal.decreases-loop-x
decreases-loop-x l = length l.a - l.i
