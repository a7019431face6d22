-- A refusal of the texts is passed on; where the note does not define the label, the sheet answers.
use mathlib.Core.Path.{◌∙◌}
use Rattle.texts.specs.Texts.{texts}
use Rattle.enquiry.proofs.Steps.{refused_text, found_beside}
use Rattle.enquiry.proofs.enquire.Goals as goal

pub returns-in_err-check : goal.returns-in_err-check
returns-in_err-check c =
    refused_text (texts c.args.note.now c.args.sheet.now) c.args.label.now c.check.ensures c.in_err-check.was _ c.from_residual.ensures.1

pub returns : goal.returns
returns c =
    let T = texts c.args.note.now c.args.sheet.now in
    c.ok_or.ensures.value ∙ found_beside T c.args.label.now c.check.ensures c.in_ok-check.was c.good_label.ensures c.if-not-good_label.false c.find.ensures c.in_default.is c.find-2.ensures
