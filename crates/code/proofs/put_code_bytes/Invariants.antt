use Prim.Native.Nat.{◌-◌}
use mathlib.Core.List.{map}
use lib.ListN.{length}
use Rattle.escaping.specs.Escaping.{escaped}
use Rattle.escaping.proofs.Gives.{Gives}
use Rattle.code.specs.Code.{feed_as_space}
use Rattle.code.proofs.put_code_bytes.Given as goal

abbrev pub invariant-loop-i : goal.invariant-loop-i
invariant-loop-i l = Gives escaped (map feed_as_space) l.s l.fn.page l.page l.i

abbrev pub decreases-loop-i : goal.decreases-loop-i
decreases-loop-i l = length l.s - l.i
