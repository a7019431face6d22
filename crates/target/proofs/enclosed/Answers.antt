-- A delimiter that is found stands within the text, so that the place after it can be counted.
use native.Mathlib.Omega.{arith}
use mathlib.Core.Path.{sym, ◌∙◌}
use lib.ListN.{drop, length-drop}
use Rattle.scan.proofs.Closing.{closing_below}
use Rattle.target.proofs.enclosed.Goals as goal

pub overflow_add-result : goal.overflow_add-result
overflow_add-result c =
    let a = c.args in
    let s = a.s.now in
    omega (arith, closing_below a.close a.bar a.other (drop a.at s) a.at c.in_ok-end.end (sym c.closing_place.ensures ∙ c.in_ok-end.was), length-drop a.at s)
