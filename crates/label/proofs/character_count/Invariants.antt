use Rattle.std.specs.Prelude.{◌≡◌, take}
use Rattle.text.specs.Sequences.{characters}
use Rattle.label.proofs.character_count.Given as goal

abbrev pub invariant-loop-b : goal.invariant-loop-b
invariant-loop-b l = l.n ≡ characters (take l.b-index l.l)
