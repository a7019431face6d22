-- The opening tag is written; from where the loop stands it comes to the same end as from its start.
use Rattle.writer.proofs.Paragraphs.{open_room, opened, stands, goes_on, close_room, closed}
use Rattle.writer.proofs.write_paragraph.Goals as goal

pub put-requires : goal.put-requires
put-requires c = open_room c.requires.starts

pub loop-p-init : goal.loop-p-init
loop-p-init c = opened c.requires.starts c.put.ensures

pub write_next-p-requires-clause-stands : goal.write_next-p-requires-clause-stands
write_next-p-requires-clause-stands c = stands c.requires.starts c.put.ensures c.loop-p.invariant c.loop-p-test.true

pub loop-p-preserved : goal.loop-p-preserved
loop-p-preserved c = goes_on c.requires.starts c.put.ensures c.loop-p.invariant c.loop-p-test.true c.write_next-p.ensures

pub put-requires-2 : goal.put-requires-2
put-requires-2 c = close_room c.requires.starts c.put.ensures c.loop-p.invariant c.loop-p-test.false

pub returns : goal.returns
returns c = closed c.requires.starts c.put.ensures c.loop-p.invariant c.loop-p-test.false c.put-2.ensures
