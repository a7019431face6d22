-- The three parts, one after the other.
use Rattle.buffer.proofs.Writing.{both}
use Rattle.code.proofs.Element.{with_tags}
use Rattle.code.proofs.put_code_span.Goals as goal

pub returns : goal.returns
returns c = rw (with_tags c.args.tags c.args.s.now c.if-not-tags.false) (both (both c.put.ensures c.put_code-2.ensures) c.put-2.ensures)
