use mathlib.Core.Path.{◌≡◌}
use Rattle.alike.specs.Left.{form_from, form}
use Rattle.order.specs.Order.{order}
use Rattle.ranking.proofs.compare_by_table.Given as goal

abbrev pub invariant-loop-x : goal.invariant-loop-x
invariant-loop-x l = order (form l.own.label.now l.own.at l.own.left) (form l.other.label.now l.other.at l.other.left) ≡ order (form_from l.a l.from) (form_from l.b l.from)
