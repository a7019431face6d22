use Prim.Native.Nat.{◌-◌}
use Rattle.writer.specs.Pass.{texts_of}
use Rattle.writer.proofs.Paragraphs.{Going}
use Rattle.writer.proofs.write_paragraph.Given as goal

abbrev pub invariant-loop-p : goal.invariant-loop-p
invariant-loop-p l = Going (texts_of l.source) l.end l.initial.p l.initial.page l.page l.p

abbrev pub decreases-loop-p : goal.decreases-loop-p
decreases-loop-p l = l.end - l.p.at
