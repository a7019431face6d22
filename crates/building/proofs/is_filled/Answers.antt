-- The entries are checked to be in order, and to be those of all rows.
use mathlib.Core.Path.{sym}
use mathlib.Core.Bool.{true≢false}
use Rattle.building.proofs.is_filled.Goals as goal

pub returns-then-not-arrange : goal.returns-then-not-arrange
returns-then-not-arrange c = λ e. absurd (true≢false (sym e))

pub returns : goal.returns
returns c = λ e. record { sorted = c.arrange.ensures c.if-not-arrange.false; covers = c.is_whole.ensures e }
