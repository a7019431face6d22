use mathlib.Core.Path.{◌≡◌}
use Rattle.alike.specs.Left.{form_from, form}
use Rattle.order.specs.Order.{mixed}
use Rattle.ranking.proofs.key_by_table.Given as goal

abbrev pub invariant-loop-b : goal.invariant-loop-b
invariant-loop-b l = mixed l.h (form l.b-iterator.label.now l.b-iterator.at l.b-iterator.left) ≡ mixed l.first (form_from l.s l.from)
