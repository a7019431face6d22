-- A code span; or with tags what the row calls for there, without them nothing.
use mathlib.Core.Path.{sym, ◌∙◌}
use Rattle.span.specs.Row.{numbers}
use Rattle.writer.specs.Pass.{texts_of}
use Rattle.writer.proofs.Steps.{text_lies, code_room, code_passes, open_room, open_passes, bare_open_passes}
use Rattle.writer.proofs.write_start.Goals as goal

pub slice_bounds-put_code_span-count : goal.slice_bounds-put_code_span-count
slice_bounds-put_code_span-count c = (text_lies (texts_of c.args.source.now) (numbers c.args.source.now.note.now c.args.row) c.requires.starts_here.is_row).ordered

pub slice_bounds-put_code_span-start : goal.slice_bounds-put_code_span-start
slice_bounds-put_code_span-start c = (text_lies (texts_of c.args.source.now) (numbers c.args.source.now.note.now c.args.row) c.requires.starts_here.is_row).ordered

pub slice_bounds-put_code_span-end : goal.slice_bounds-put_code_span-end
slice_bounds-put_code_span-end c = (text_lies (texts_of c.args.source.now) (numbers c.args.source.now.note.now c.args.row) c.requires.starts_here.is_row).inside

pub put_code_span-requires : goal.put_code_span-requires
put_code_span-requires c = code_room c.requires.starts_here (sym c.is_code_span.ensures ∙ c.if-is_code_span.true) c.args.page.now c.requires.room

pub returns-then-is_code_span : goal.returns-then-is_code_span
returns-then-is_code_span c = code_passes c.requires.starts_here (sym c.is_code_span.ensures ∙ c.if-is_code_span.true) c.put_code_span.ensures

pub put_open-requires-clause-room : goal.put_open-requires-clause-room
put_open-requires-clause-room c = open_room c.requires.starts_here (sym c.is_code_span.ensures ∙ c.if-is_code_span.false) c.if-tags.true c.args.page.now c.requires.room

pub returns-then-tags : goal.returns-then-tags
returns-then-tags c = open_passes c.requires.starts_here (sym c.is_code_span.ensures ∙ c.if-is_code_span.false) c.if-tags.true c.put_open.ensures

pub returns-else-tags : goal.returns-else-tags
returns-else-tags c = bare_open_passes c.requires.starts_here (sym c.is_code_span.ensures ∙ c.if-is_code_span.false) c.if-tags.false
