use Rattle.cursor.proofs.Rows.{Passed}
use Rattle.cursor.proofs.next_closing.Given as goal

abbrev pub invariant-loop-k : goal.invariant-loop-k
invariant-loop-k l = Passed l.spans l.count l.at l.start l.k
