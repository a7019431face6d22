-- The closing tag of a link, or the rest of an image's.
use Rattle.span.specs.Row.{numbers}
use Rattle.writer.specs.Pass.{texts_of}
use Rattle.writer.proofs.Steps.{numbered, title_lies}
use Rattle.writer.proofs.put_close.Goals as goal

pub text_for-text-requires-clause-number_in_bounds : goal.text_for-text-requires-clause-number_in_bounds
text_for-text-requires-clause-number_in_bounds c = numbered (texts_of c.args.source.now) (numbers c.args.source.now.note.now c.args.row) c.requires.is_row

pub slice_bounds-put_image_close-count : goal.slice_bounds-put_image_close-count
slice_bounds-put_image_close-count c = (title_lies (texts_of c.args.source.now) (numbers c.args.source.now.note.now c.args.row) c.requires.is_row c.text_for-text.ensures).ordered

pub slice_bounds-put_image_close-start : goal.slice_bounds-put_image_close-start
slice_bounds-put_image_close-start c = (title_lies (texts_of c.args.source.now) (numbers c.args.source.now.note.now c.args.row) c.requires.is_row c.text_for-text.ensures).ordered

pub slice_bounds-put_image_close-end : goal.slice_bounds-put_image_close-end
slice_bounds-put_image_close-end c = (title_lies (texts_of c.args.source.now) (numbers c.args.source.now.note.now c.args.row) c.requires.is_row c.text_for-text.ensures).inside
