-- The five parts, one after the other.
use Rattle.html.specs.Reading.{link_open}
use Rattle.buffer.proofs.Writing.{both}
use Rattle.html.proofs.put_link_open.Goals as goal

pub returns : goal.returns
unfolding link_open
returns c = both (both (both (both c.put.ensures c.put_href.ensures) c.put_byte.ensures) c.put_title_attribute.ensures) c.put_byte-2.ensures
