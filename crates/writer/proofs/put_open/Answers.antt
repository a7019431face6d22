-- The tag of the row's sort, from the text that its definition names.
use Rattle.span.specs.Row.{numbers}
use Rattle.writer.specs.Pass.{texts_of}
use Rattle.writer.proofs.Steps.{numbered, destination_lies, title_lies}
use Rattle.writer.proofs.put_open.Goals as goal

pub text_for-text-requires-clause-number_in_bounds : goal.text_for-text-requires-clause-number_in_bounds
text_for-text-requires-clause-number_in_bounds c = numbered (texts_of c.args.source.now) (numbers c.args.source.now.note.now c.args.row) c.requires.is_row

pub slice_bounds-destination-count : goal.slice_bounds-destination-count
slice_bounds-destination-count c = (destination_lies (texts_of c.args.source.now) (numbers c.args.source.now.note.now c.args.row) c.requires.is_row c.text_for-text.ensures).ordered

pub slice_bounds-destination-start : goal.slice_bounds-destination-start
slice_bounds-destination-start c = (destination_lies (texts_of c.args.source.now) (numbers c.args.source.now.note.now c.args.row) c.requires.is_row c.text_for-text.ensures).ordered

pub slice_bounds-destination-end : goal.slice_bounds-destination-end
slice_bounds-destination-end c = (destination_lies (texts_of c.args.source.now) (numbers c.args.source.now.note.now c.args.row) c.requires.is_row c.text_for-text.ensures).inside

pub slice_bounds-put_link_open-count : goal.slice_bounds-put_link_open-count
slice_bounds-put_link_open-count c = (title_lies (texts_of c.args.source.now) (numbers c.args.source.now.note.now c.args.row) c.requires.is_row c.text_for-text.ensures).ordered

pub slice_bounds-put_link_open-start : goal.slice_bounds-put_link_open-start
slice_bounds-put_link_open-start c = (title_lies (texts_of c.args.source.now) (numbers c.args.source.now.note.now c.args.row) c.requires.is_row c.text_for-text.ensures).ordered

pub slice_bounds-put_link_open-end : goal.slice_bounds-put_link_open-end
slice_bounds-put_link_open-end c = (title_lies (texts_of c.args.source.now) (numbers c.args.source.now.note.now c.args.row) c.requires.is_row c.text_for-text.ensures).inside
