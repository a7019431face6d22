use Rattle.std.proofs.Common.{rules}
use Rattle.walk.proofs.Steps.{definition_here}
use Rattle.walk.proofs.next_definition.Goals as goal

pub returns-in-Some : goal.returns-in-Some
returns-in-Some c = search (definition_here, rules)
