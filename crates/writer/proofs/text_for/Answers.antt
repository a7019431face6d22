-- The number 0 names the note, any other the text of its row.
use Rattle.writer.proofs.Named.{by_note, by_sheet}
use Rattle.writer.proofs.text_for.Goals as goal

pub returns-then-text_at-eq-NOTE : goal.returns-then-text_at-eq-NOTE
returns-then-text_at-eq-NOTE c =
    by_note c.requires.ready.listing c.requires.number_in_bounds c.if-number-eq0.false c.text_at.ensures c.if-text_at-eq-NOTE.true

pub returns : goal.returns
returns c =
    by_sheet c.requires.ready.listing c.requires.number_in_bounds c.if-number-eq0.false c.text_at.ensures c.if-text_at-eq-NOTE.false
