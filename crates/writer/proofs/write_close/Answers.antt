-- With tags what the row calls for there, without them nothing.
use Rattle.writer.proofs.Steps.{close_room, close_passes, bare_close_passes}
use Rattle.writer.proofs.write_close.Goals as goal

pub put_close-requires-clause-room : goal.put_close-requires-clause-room
put_close-requires-clause-room c = close_room c.requires.closes_here c.if-tags.true c.args.page.now c.requires.room

pub returns-then-tags : goal.returns-then-tags
returns-then-tags c = close_passes c.requires.closes_here c.if-tags.true c.put_close.ensures

pub returns-else-tags : goal.returns-else-tags
returns-else-tags c = bare_close_passes c.requires.closes_here c.if-tags.false
