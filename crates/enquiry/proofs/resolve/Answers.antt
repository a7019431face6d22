-- The answer's numbers are stored; then the part is empty, or it is the destination in the note or in the sheet.
use Rattle.std.proofs.Common.{rules}
use Rattle.texts.specs.Texts.{texts}
use Rattle.enquiry.proofs.Steps.{refused_part, note_handed, sheet_handed}
use Rattle.enquiry.proofs.Answers.{part_ordered, inside_note, inside_sheet}
use Rattle.enquiry.proofs.resolve.Goals as goal

ruleset ways = (refused_part, note_handed, sheet_handed, part_ordered, inside_note, inside_sheet, rules)

pub returns-in_default : goal.returns-in_default
returns-in_default c = search ways

pub slice_bounds-result-count : goal.slice_bounds-result-count
slice_bounds-result-count c = search ways

pub slice_bounds-result-start : goal.slice_bounds-result-start
slice_bounds-result-start c = search ways

pub slice_bounds-result-end-then-destination-eq-NOTE : goal.slice_bounds-result-end-then-destination-eq-NOTE
slice_bounds-result-end-then-destination-eq-NOTE c = search ways

pub returns-then-destination-eq-NOTE : goal.returns-then-destination-eq-NOTE
returns-then-destination-eq-NOTE c = search ways

pub slice_bounds-result-count-2 : goal.slice_bounds-result-count-2
slice_bounds-result-count-2 c = search ways

pub slice_bounds-result-start-2 : goal.slice_bounds-result-start-2
slice_bounds-result-start-2 c = search ways

pub slice_bounds-result-end-2 : goal.slice_bounds-result-end-2
slice_bounds-result-end-2 c = search ways

pub returns : goal.returns
returns c = search ways
