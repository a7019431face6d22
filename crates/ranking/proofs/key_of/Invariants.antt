use Prim.Native.Nat.{◌-◌, ◌<◌, ◌^◌}
use mathlib.Core.Path.{◌≡◌}
use lib.ListN.{length}
use Rattle.matching.specs.Reading.{compared}
use Rattle.alike.specs.Left.{form_from}
use Rattle.order.specs.Order.{mixed, front, key}
use Rattle.ranking.proofs.key_of.Given as goal

abbrev pub invariant-loop-h : goal.invariant-loop-h
invariant-loop-h l = (front (mixed l.h (form_from l.s l.i)) ≡ key (compared l.s)) × (length l.s < 2 ^ 64)

abbrev pub decreases-loop-h : goal.decreases-loop-h
decreases-loop-h l = length l.s - l.i
