use Prim.Native.Nat.{◌-◌}
use lib.ListN.{length}
use Rattle.table.proofs.Filling.{Filling}
use Rattle.table.proofs.fill_text.Given as goal

abbrev pub invariant-loop-item : goal.invariant-loop-item
invariant-loop-item l = Filling l.s l.text l.initial.table l.from l.initial.list l.table l.list l.next l.paragraphs l.c l.line

abbrev pub decreases-loop-item : goal.decreases-loop-item
decreases-loop-item l = length l.s - l.c.at
