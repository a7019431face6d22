use Rattle.std.specs.Prelude.{◌≡◌}
use Rattle.scan.specs.Reading.{runs}
use Rattle.scan.proofs.all_pass.Given as goal

abbrev pub invariant-loop-x : goal.invariant-loop-x
invariant-loop-x g l = l.all ≡ runs (g.C.Class.has l.class) l.x-index l.s 0
