-- Each turn passes a definition that has another label.
use Rattle.enquiry.proofs.Search.{starts, other}
use Rattle.enquiry.proofs.find.Goals as goal

pub definitions-init : goal.definitions-init
definitions-init c = starts c.args.s.now c.args.text c.args.label.now

pub definitions-preserved : goal.definitions-preserved
definitions-preserved c = other c.args.s.now c.args.text c.args.label.now c.definitions.invariant c.in-Some.ensures c.same_label.ensures c.if-not-same_label.true
