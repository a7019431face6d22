-- The three parts, one after the other.
use borrow.Author.Rules.{rules}
use Rattle.buffer.proofs.Writing.{both}
use Rattle.html.proofs.Link.{some_title}
use Rattle.html.proofs.put_title_attribute.Goals as goal

pub returns : goal.returns
returns c = rw (some_title c.args.title.now (search rules)) (both (both c.put.ensures c.put_text.ensures) c.put_byte.ensures)
