-- The page is measured, and then written if it fits.
use Rattle.texts.specs.Texts.{texts}
use Rattle.cursor.proofs.Starts.{startable, note_started}
use Rattle.rendering.proofs.Written.{page_stored}
use Rattle.rendering.proofs.render_rows.Goals as goal

pub mark_starts-requires-clause-startable : goal.mark_starts-requires-clause-startable
mark_starts-requires-clause-startable c = startable c.requires.spanned

pub write_page-bytes-requires-clause-ready : goal.write_page-bytes-requires-clause-ready
write_page-bytes-requires-clause-ready c =
    record { listing = c.requires.listing; spanned = c.requires.spanned; started = note_started c.requires.spanned c.mark_starts.ensures }

pub write_page-requires-clause-ready : goal.write_page-requires-clause-ready
write_page-requires-clause-ready c =
    record { listing = c.requires.listing; spanned = c.requires.spanned; started = note_started c.requires.spanned c.mark_starts.ensures }

pub returns-clause-page_after : goal.returns-clause-page_after
returns-clause-page_after c =
    page_stored (texts c.args.note.now c.args.sheet.now) c.args.page.now c.args.counts c.write_page-bytes.ensures c.if-page-bytes.false c.write_page.ensures
