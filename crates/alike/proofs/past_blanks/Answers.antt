-- A run of no blank and of one are told by two bytes.
use native.Mathlib.Omega.{arith}
use borrow.Author.Rules.{rules}
use mathlib.Core.Path.{ap}
use mathlib.Core.Bool.{not}
use Rattle.alike.proofs.Blanks.{no_blank, blank_inside, one_blank}
use Rattle.alike.proofs.past_blanks.Goals as goal

pub returns-then-not-is_blank : goal.returns-then-not-is_blank
returns-then-not-is_blank c = search (no_blank, rules)

pub overflow_add-next : goal.overflow_add-next
overflow_add-next c =
    omega (arith, blank_inside c.args.s.now c.args.at c.peek.ensures c.is_blank.ensures (ap not c.if-not-is_blank.false))

pub returns-then-not-is_blank-2 : goal.returns-then-not-is_blank-2
returns-then-not-is_blank-2 c =
    let a = c.args in
    one_blank a.s.now a.at c.peek.ensures c.is_blank.ensures (ap not c.if-not-is_blank.false) c.peek-2.ensures c.is_blank-2.ensures (ap not c.if-not-is_blank-2.true)
