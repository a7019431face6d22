-- A row more can be stored where its number is less than that of the whole rows.
use Prim.Native.Nat.{◌+◌}
use Rattle.line.proofs.Lines.{kept, moved}
use Rattle.step.proofs.Step.{lined_by}
use Rattle.step.proofs.count_lines.Goals as goal

pub returns-then-whole_rows-w : goal.returns-then-whole_rows-w
returns-then-whole_rows-w c = let a = c.args in lined_by a.note.now a.start a.spans.now a.w (kept a.note.now a.w.line (a.start + a.w.at) a.w.row _ c.requires.before (rw c.whole_rows.ensures at c.if-whole_rows-w.true))

pub returns : goal.returns
returns c = let a = c.args in lined_by a.note.now a.start a.spans.now a.w (moved a.note.now a.w.line (a.start + a.w.at) a.w.row _ (rw c.whole_rows.ensures at c.if-whole_rows-w.false) c.line_at-v.ensures)
