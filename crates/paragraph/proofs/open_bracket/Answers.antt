-- The line beside the place is the one that was counted.
use Rattle.paragraph.proofs.Stack.{opened_by}
use Rattle.step.proofs.Step.{line_small}
use native.Mathlib.Omega.{arith}
use Rattle.paragraph.proofs.open_bracket.Goals as goal

pub overflow_cast-stack-2 : goal.overflow_cast-stack-2
overflow_cast-stack-2 c = let a = c.args in let p = c.requires in omega (arith, line_small a.note.now a.start a.spans.now a.w p.lined c.count_lines-v.ensures (omega (arith, p.room.onward, p.room.fits)))

pub returns-clause-value : goal.returns-clause-value
returns-clause-value c = let a = c.args in opened_by a.note.now a.start a.spans.now a.w a.end c.count_lines-v.ensures
