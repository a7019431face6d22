use mathlib.Core.Path.{◌≡◌}
use Prim.Native.Nat.{◌-◌, ◌≤◌}
use lib.ListN.{length}
use Rattle.walk.specs.Reading.{paragraphs_from}
use Rattle.walk.proofs.next_paragraph.Given as goal

abbrev pub invariant-loop-block : goal.invariant-loop-block
invariant-loop-block l = (l.at ≤ l.i) × (paragraphs_from l.note l.i ≡ paragraphs_from l.note l.at)

abbrev pub decreases-loop-block : goal.decreases-loop-block
decreases-loop-block l = length l.note - l.i
