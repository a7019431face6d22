-- The same bytes match; else the comparison tells.
use mathlib.Core.Path.{sym, ◌∙◌}
use lib.Pointwise.{bytes_decides}
use Rattle.searching.proofs.Turn.{same_match}
use Rattle.searching.proofs.are_equal.Goals as goal

pub returns-then-eq : goal.returns-then-eq
returns-then-eq c = c.if-eq.true ∙ same_match _ _ ((bytes_decides _ _).0 (sym c.eq.ensures ∙ c.if-eq.true))
