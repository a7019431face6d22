-- The three parts, one after the other.
use Rattle.html.specs.Reading.{image_close}
use Rattle.buffer.proofs.Writing.{both}
use Rattle.html.proofs.put_image_close.Goals as goal

pub returns : goal.returns
unfolding image_close
returns c = both (both c.put_byte.ensures c.put_title_attribute.ensures) c.put.ensures
