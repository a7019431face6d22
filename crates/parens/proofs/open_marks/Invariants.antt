use mathlib.Core.Path.{◌≡◌}
use lib.ListN.{length}
use Rattle.parens.proofs.Filling.{Filled}
use Rattle.parens.proofs.open_marks.Given as goal

abbrev pub invariant-loop-i : goal.invariant-loop-i
invariant-loop-i l = (length l.marks ≡ length l.initial.marks) × Filled l.s l.i l.c l.marks
