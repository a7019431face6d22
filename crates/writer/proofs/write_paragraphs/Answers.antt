-- Each turn writes a paragraph.
use Rattle.writer.specs.Pass.{texts_of}
use Rattle.writer.proofs.Pages.{pages, all_written, starts, further}
use Rattle.writer.proofs.write_paragraphs.Goals as goal

pub loop-next-init : goal.loop-next-init
loop-next-init c = pages (texts_of c.args.source.now) c.args.paragraphs.now.list.now c.args.paragraphs.now.count c.args.page.now

pub write_paragraph-p-requires-clause-starts : goal.write_paragraph-p-requires-clause-starts
write_paragraph-p-requires-clause-starts c =
    starts c.loop-next.invariant (rw c.requires.same_note at c.in-Some.ensures.read) c.requires.ready.spanned c.requires.untouched

pub loop-next-preserved : goal.loop-next-preserved
loop-next-preserved c =
    further c.loop-next.invariant (rw c.requires.same_note at c.in-Some.ensures.read) (rw c.requires.same_note at c.in-Some.ensures.onward) c.write_paragraph-p.ensures

pub returns : goal.returns
returns c = all_written c.loop-next.invariant (rw c.requires.same_note at c.in_default.ensures.read)
