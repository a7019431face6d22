use Prim.Native.Nat.{◌-◌, ◌<◌, ◌^◌}
use mathlib.Core.Path.{◌≡◌}
use lib.ListN.{length}
use Rattle.matching.specs.Reading.{equals, matches}
use Rattle.alike.specs.Left.{form_from}
use Rattle.row.specs.Reading.{row_from}
use Rattle.row.specs.Listing.{texts_of, row_with}
use Rattle.row.proofs.lookup_bytes.Given as goal

abbrev pub invariant-rows : goal.invariant-rows
invariant-rows l = row_from (texts_of l.d) l.d.table.now l.label l.k l.d.count ≡ row_with l.d l.label

abbrev pub decreases-rows : goal.decreases-rows
decreases-rows l = l.d.count - l.k

abbrev pub invariant-loop-own : goal.invariant-loop-own
invariant-loop-own l = (l.k ≡ l.initial.k) × (length l.own < 2 ^ 64) × (length l.label < 2 ^ 64) × (equals (form_from l.own l.i) (form_from l.label l.j) ≡ matches l.own l.label)

abbrev pub decreases-loop-own : goal.decreases-loop-own
decreases-loop-own l = length l.own - l.i
