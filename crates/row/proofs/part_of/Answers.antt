-- The part lies in the note or in the sheet.
use native.Mathlib.Omega.{arith}
use Rattle.texts.specs.Texts.{texts}
use Rattle.row.proofs.Turn.{in_note, in_sheet, of_note, of_sheet}
use Rattle.row.proofs.part_of.Goals as goal

pub slice_bounds-result-end : goal.slice_bounds-result-end
slice_bounds-result-end c = let w = in_note (texts c.args.note.now c.args.sheet.now) c.args.text c.args.r c.requires c.if-text-eq-NOTE.true in omega (arith, w.ordered, w.inside)

pub returns-then-text-eq-NOTE : goal.returns-then-text-eq-NOTE
returns-then-text-eq-NOTE c = of_note (texts c.args.note.now c.args.sheet.now) c.args.text c.args.r c.if-text-eq-NOTE.true

pub slice_bounds-result-end-2 : goal.slice_bounds-result-end-2
slice_bounds-result-end-2 c = let w = in_sheet (texts c.args.note.now c.args.sheet.now) c.args.text c.args.r c.requires c.if-text-eq-NOTE.false in omega (arith, w.ordered, w.inside)

pub returns : goal.returns
returns c = of_sheet (texts c.args.note.now c.args.sheet.now) c.args.text c.args.r c.if-text-eq-NOTE.false
