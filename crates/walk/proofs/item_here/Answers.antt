-- A definition stands there, or what is left of the block is its paragraph.
use Rattle.walk.proofs.Items.{item_definition, item_paragraph}
use Rattle.walk.proofs.item_here.Goals as goal

pub returns-in-Some : goal.returns-in-Some
returns-in-Some c = item_definition c.args.note.now c.args.c c.requires.standing c.requires.line_ends c.requires.at_lt_end c.definition.ensures c.in-Some.is

pub returns : goal.returns
returns c = item_paragraph c.args.note.now c.args.c c.requires.standing c.requires.line_ends c.requires.at_lt_end c.definition.ensures c.in_default.is c.paragraph_end.ensures
