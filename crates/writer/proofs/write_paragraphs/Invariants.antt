use Prim.Native.Nat.{◌-◌}
use lib.ListN.{length}
use Rattle.writer.specs.Pass.{texts_of}
use Rattle.writer.proofs.Pages.{Pages}
use Rattle.writer.proofs.write_paragraphs.Given as goal

abbrev pub invariant-loop-next : goal.invariant-loop-next
invariant-loop-next l = Pages (texts_of l.source) l.paragraphs.list.now l.paragraphs.count l.initial.page l.page l.k l.next l.p

abbrev pub decreases-loop-next : goal.decreases-loop-next
decreases-loop-next l = length l.source.note.now - l.next
