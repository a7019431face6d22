-- Each return says what was counted.
use Rattle.row.specs.Listing.{texts_of}
use Rattle.notice.proofs.Returns.{too_deep, too_few_rows, enough_rows}
use Rattle.notice.proofs.count_spans.Goals as goal

pub returns-in_err-walk-clause-counted : goal.returns-in_err-walk-clause-counted
returns-in_err-walk-clause-counted c =
    too_deep (texts_of c.args.definitions.now) c.args.definitions.now.count c.args.rows c.note_spans.ensures.note_marked c.in_err-walk.was _ c.from_residual.ensures.1

pub returns-then-rows-walk-clause-counted : goal.returns-then-rows-walk-clause-counted
returns-then-rows-walk-clause-counted c =
    too_few_rows (texts_of c.args.definitions.now) c.args.definitions.now.count c.args.rows c.note_spans.ensures.note_marked c.in_ok-walk.was c.if-rows-walk.true

pub returns-clause-counted : goal.returns-clause-counted
returns-clause-counted c =
    enough_rows (texts_of c.args.definitions.now) c.args.definitions.now.count c.args.rows c.note_spans.ensures.note_marked c.in_ok-walk.was c.if-rows-walk.false
