-- The number is what the comparison answers.
use Rattle.notice_c.proofs.SameLabel.{told}
use Rattle.notice_c.proofs.notice_same_label.Goals as goal

pub returns : goal.returns
returns c = told c.args.a.now c.args.b.now c.same_label.ensures c.from.ensures
