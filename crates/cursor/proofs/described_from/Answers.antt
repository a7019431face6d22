-- An image, or none.
use mathlib.Core.Path.{refl, sym, ◌∙◌}
use Rattle.cursor.proofs.Rows.{lesser}
use Rattle.cursor.proofs.described_from.Goals as goal

pub returns-then-is_image : goal.returns-then-is_image
returns-then-is_image c = λ line. c.min.ensures ∙ rw (sym c.is_image.ensures ∙ c.if-is_image.true) (lesser c.args.row.text.start c.args.from)

pub returns-else-is_image : goal.returns-else-is_image
returns-else-is_image c = λ line. rw (sym c.is_image.ensures ∙ c.if-is_image.false) refl
