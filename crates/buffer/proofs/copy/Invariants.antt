use Rattle.std.specs.Prelude.{◌≡◌, length, take}
use Rattle.buffer.proofs.copy.Given as goal

abbrev pub invariant-loop-i : goal.invariant-loop-i
invariant-loop-i l = record {
  same_length : length l.to ≡ length l.from;
  copied : take l.i l.to ≡ take l.i l.from;
}
