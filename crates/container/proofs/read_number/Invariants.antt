-- The state is the number so far.
use mathlib.Core.Path.{◌≡◌}
use lib.ListN.{drop}
use Rattle.container.specs.Container.{number_from}
use Rattle.container.proofs.read_number.Given as goal

abbrev pub invariant-loop-b : goal.invariant-loop-b
invariant-loop-b l = number_from (drop l.b-index l.text) l.n ≡ number_from l.text 0
