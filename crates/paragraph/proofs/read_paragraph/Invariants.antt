use Rattle.paragraph.proofs.Loop.{On}
use Rattle.tail.specs.Ending.{all_labels}
use Rattle.step.specs.Reading.{all_definitions}
use Rattle.ticks.specs.LastRuns.{Ready}
use Rattle.parens.specs.Unclosed.{Prepared}
use Rattle.index.specs.Rows.{ReadyFor}
use lib.ListN.{length}
use Prim.Native.Nat.{◌-◌}
use mathlib.Core.Path.{◌≡◌}
use Rattle.paragraph.proofs.read_paragraph.Given as goal

abbrev pub invariant-loop-w : goal.invariant-loop-w
invariant-loop-w l = record {
  same_spans : length l.spans ≡ length l.initial.spans;
  on : On l.note l.start l.p (all_labels l.definitions) (all_definitions l.definitions) l.initial.w.row l.initial.spans l.stack l.w l.spans;
  runs : Ready l.p l.runs;
  marks : Prepared l.p l.w.at l.marks;
  marks_length : length l.marks ≡ length l.initial.marks;
  stack_length : length l.stack ≡ length l.initial.stack;
  same_index : length l.index ≡ length l.initial.index;
  ready : ReadyFor l.definitions l.index;
}

abbrev pub decreases-loop-w : goal.decreases-loop-w
decreases-loop-w l = length l.p - l.w.at
