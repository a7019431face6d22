use mathlib.Core.Path.{◌≡◌}
use Prim.Native.Nat.{◌-◌, ◌≤◌}
use lib.ListN.{length}
use Rattle.walk.specs.Reading.{definitions_after}
use Rattle.walk.proofs.Steps.{cursor}
use Rattle.walk.proofs.next_definition.Given as goal

abbrev pub invariant-loop-entry : goal.invariant-loop-entry
invariant-loop-entry l = (l.initial.at ≤ l.at) × (l.at ≤ l.end) × (l.end ≤ length l.note) × (definitions_after l.note (cursor l.at l.end) ≡ definitions_after l.note (cursor l.initial.at l.initial.end))

abbrev pub decreases-loop-entry : goal.decreases-loop-entry
decreases-loop-entry l = length l.note - l.end
