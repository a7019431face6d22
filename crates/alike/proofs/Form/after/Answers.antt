-- With no byte left of a character, the form is that of the label's rest.
use mathlib.Core.Path.{◌∙◌}
use Rattle.alike.proofs.Bytes.{form_0}
use Rattle.alike.proofs.Form.after.Goals as goal

pub returns : goal.returns
returns c = c.with_left.ensures ∙ form_0 c.args.label.now c.args.at
