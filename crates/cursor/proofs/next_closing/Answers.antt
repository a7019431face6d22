-- The rows before `k` do not wait.
use mathlib.Core.Path.{sym, ap, ◌∙◌}
use Rattle.cursor.specs.Cursor.{waits}
use Rattle.span.specs.Reading.{line_in}
use Rattle.cursor.proofs.Rows.{none_passed, one_passed, found_there, none_there, row_read}
use Rattle.cursor.proofs.next_closing.Goals as goal

pub loop-k-init : goal.loop-k-init
loop-k-init c = let a = c.args in none_passed a.spans.now a.count a.at a.start

pub returns-then-row_waits : goal.returns-then-row_waits
returns-then-row_waits c =
    let a = c.args in
    let row = row_read a.spans.now c.requires c.loop-k-test.true c.span_at.ensures in
    found_there a.spans.now a.count a.at a.start c.loop-k.invariant
    (sym (ap (waits a.at) row) ∙ sym (c.row_waits.ensures (line_in a.spans.now c.loop-k.k)) ∙ c.if-row_waits.true)

pub loop-k-preserved : goal.loop-k-preserved
loop-k-preserved c =
    let a = c.args in
    let row = row_read a.spans.now c.requires c.loop-k-test.true c.span_at.ensures in
    one_passed a.spans.now a.count a.at a.start c.loop-k.invariant
    (sym (ap (waits a.at) row) ∙ sym (c.row_waits.ensures (line_in a.spans.now c.loop-k.k)) ∙ c.if-row_waits.false)

pub returns : goal.returns
returns c =
    let a = c.args in
    none_there a.spans.now a.count a.at a.start c.loop-k.invariant c.loop-k-test.false c.max.ensures
