use mathlib.Core.Path.{◌≡◌}
use lib.ListN.{length}
use Rattle.index.specs.Rows.{ReadyFor}
use Rattle.row.specs.Listing.{texts_of}
use Rattle.walk.specs.Reading.{from}
use Rattle.paragraphs.proofs.Turns.{Going}
use Rattle.paragraphs.proofs.note_spans.Given as goal

abbrev pub invariant-loop-k : goal.invariant-loop-k
invariant-loop-k l = record {
  going : Going (texts_of l.definitions) l.initial.spans l.spans l.at l.w;
  same_stack : length l.stack ≡ length l.initial.stack;
  same_marks : length l.marks ≡ length l.initial.marks;
  same_index : length l.index ≡ length l.initial.index;
  ready : ReadyFor l.definitions l.index;
  at_is : l.at ≡ from l.paragraphs.note.now l.paragraphs.list.now l.k;
}
