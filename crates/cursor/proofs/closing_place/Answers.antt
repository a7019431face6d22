-- Where the row's text ends, or the end.
use mathlib.Core.Path.{sym, ap}
use Rattle.page.specs.Reading.{text_end}
use Rattle.cursor.proofs.Rows.{row_read, row_place, no_row}
use Rattle.cursor.proofs.closing_place.Goals as goal

pub returns-then-k-count : goal.returns-then-k-count
returns-then-k-count c =
    let a = c.args in
    row_place a.spans.now a.count a.k a.end c.if-k-count.true (ap text_end (row_read a.spans.now c.requires c.if-k-count.true c.span_at.ensures)) c.min.ensures

pub returns-else-k-count : goal.returns-else-k-count
returns-else-k-count c = let a = c.args in sym (no_row a.spans.now a.count a.k a.end c.if-k-count.false)
