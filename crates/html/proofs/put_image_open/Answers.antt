-- The three parts, one after the other.
use Rattle.html.specs.Reading.{image_open}
use Rattle.buffer.proofs.Writing.{both}
use Rattle.html.proofs.put_image_open.Goals as goal

pub returns : goal.returns
unfolding image_open
returns c = both (both c.put.ensures c.put_href.ensures) c.put-2.ensures
