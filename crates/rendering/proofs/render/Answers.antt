-- Each return keeps the promise, by what the reader answered and, where it read the note, by what was written.
use mathlib.Core.Path.{refl}
use Rattle.rendering.proofs.Returns.{refused, spanned, listing, page_done}
use Rattle.rendering.proofs.render.Goals as goal

pub returns-in_err-counts : goal.returns-in_err-counts
returns-in_err-counts c = refused c.args.page.now c.in_err-counts.ensures.promise refl _ c.from_residual.ensures.1

pub render_rows-requires-clause-spanned : goal.render_rows-requires-clause-spanned
render_rows-requires-clause-spanned c = spanned c.args.page.now c.in_ok-counts.ensures.promise refl

pub render_rows-requires-clause-listing : goal.render_rows-requires-clause-listing
render_rows-requires-clause-listing c = listing c.args.page.now c.in_ok-counts.ensures.promise refl

pub returns : goal.returns
returns c = page_done c.args.page.now c.in_ok-counts.ensures.promise refl c.render_rows.ensures.value c.render_rows.ensures.page_after
