-- A turn writes what the byte at `i` is.
use Rattle.escaping.proofs.Gives.{unit_gives}
use Rattle.href.proofs.put_href.Goals as goal

pub loop-i-preserved : goal.loop-i-preserved
loop-i-preserved c = unit_gives c.loop-i.invariant c.past_backslash-j.ensures c.loop-i-test.true c.put_href_byte.ensures
