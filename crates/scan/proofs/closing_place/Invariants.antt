use Rattle.std.specs.Prelude.{◌≡◌, drop}
use Rattle.scan.specs.Reading.{closing_from, closing}
use Rattle.scan.proofs.closing_place.Given as goal

abbrev pub invariant-loop-i : goal.invariant-loop-i
invariant-loop-i l = closing_from l.close l.bar l.other (drop l.i l.s) (record { at = l.i; inside = l.inside }) ≡ closing l.close l.bar l.other (drop l.at l.s) l.at
