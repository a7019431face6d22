-- What the row that starts there calls for, or the row whose text ends there, or the text before the next of these.
use Prim.Native.Nat.{◌<◌}
use native.Mathlib.Omega.{arith}
use mathlib.Core.Path.{sym}
use borrow.Author.Rules.{rules}
use Rattle.cursor.specs.Starts.{places}
use Rattle.cursor.proofs.Told.{some_start, none_start}
use Rattle.writer.proofs.Here.{start_index, start_span, goes, close_index, close_start, close_span, part_size, text_run}
use Rattle.writer.proofs.write_next.Goals as goal
use Rattle.writer.proofs.write_next.Goals.{After-span_at-row-then-closes_at-at}

-- ---- a row starts there

pub span_at-row-requires : goal.span_at-row-requires
span_at-row-requires c =
    let a = c.requires in
    omega (arith, a.ready.spanned.room, start_index a.ready.spanned a.ready.started a.stands (some_start c.in-Some.ensures).taken (some_start c.in-Some.ensures).row)

pub write_start-requires-clause-starts_here : goal.write_start-requires-clause-starts_here
write_start-requires-clause-starts_here c =
    let a = c.requires in
    start_span a.ready.spanned a.ready.started a.stands (some_start c.in-Some.ensures).taken (some_start c.in-Some.ensures).row c.span_at-row.ensures (some_start c.in-Some.ensures).tags

-- ---- the text of a row ends there

pub span_at-row-requires-then-closes_at-at : goal.span_at-row-requires-then-closes_at-at
span_at-row-requires-then-closes_at-at c =
    let a = c.requires in
    omega (arith, a.ready.spanned.room, close_index a.ready.spanned a.ready.started a.stands (none_start c.in_default.ensures) c.next_closing-close.ensures c.closing_place-closes_at.ensures c.if-closes_at-at.true)

start : (c : After-span_at-row-then-closes_at-at) → c.span_at-row-then-closes_at-at.result.whole.start < places
start c =
    let a = c.requires in
    close_start a.ready.spanned a.ready.started a.stands (none_start c.in_default.ensures) c.next_closing-close.ensures c.closing_place-closes_at.ensures c.if-closes_at-at.true c.span_at-row-then-closes_at-at.ensures

pub offset_bounds-source-row : goal.offset_bounds-source-row
offset_bounds-source-row c = search (start (goal.at.offset_bounds-source-row c).After-span_at-row-then-closes_at-at, rules)

pub bounds-source-row : goal.bounds-source-row
bounds-source-row c = omega (arith, start (goal.at.bounds-source-row c).After-span_at-row-then-closes_at-at, c.requires.ready.started.long)

pub write_close-requires-clause-closes_here : goal.write_close-requires-clause-closes_here
write_close-requires-clause-closes_here c =
    let a = c.requires in
    close_span a.ready.spanned a.ready.started a.stands (none_start c.in_default.ensures) c.next_closing-close.ensures c.closing_place-closes_at.ensures c.if-closes_at-at.true c.span_at-row-then-closes_at-at.ensures c.has_tags-tags.ensures

pub returns-then-closes_at-at : goal.returns-then-closes_at-at
returns-then-closes_at-at c =
    let a = c.requires in
    goes a.ready.spanned a.ready.started a.stands (none_start c.in_default.ensures) c.next_closing-close.ensures c.write_close.ensures

-- ---- text

pub slice_bounds-next_start-end : goal.slice_bounds-next_start-end
slice_bounds-next_start-end c =
    let a = c.requires in
    sym (part_size a.ready.spanned a.ready.started a.stands (none_start c.in_default.ensures) c.next_closing-close.ensures c.closing_place-closes_at.ensures)

pub write_text-requires : goal.write_text-requires
write_text-requires c =
    let a = c.requires in
    record {
      sheet = c.args.source.now.sheet.now;
      plain = text_run a.ready.spanned a.ready.started a.stands (none_start c.in_default.ensures) c.next_closing-close.ensures c.closing_place-closes_at.ensures c.if-closes_at-at.false c.next_start-stop.ensures;
      room = a.stands.room;
    }

pub returns : goal.returns
returns c =
    let a = c.requires in
    goes a.ready.spanned a.ready.started a.stands (none_start c.in_default.ensures) c.next_closing-close.ensures
    (c.write_text.ensures c.args.source.now.sheet.now (text_run a.ready.spanned a.ready.started a.stands (none_start c.in_default.ensures) c.next_closing-close.ensures c.closing_place-closes_at.ensures c.if-closes_at-at.false c.next_start-stop.ensures))
