use mathlib.Core.Path.{◌≡◌}
use Rattle.walk.specs.Reading.{from}
use Rattle.paragraphs.proofs.Most.{Tallied}
use Rattle.paragraphs.proofs.surely_fits.Given as goal

abbrev pub invariant-loop-k : goal.invariant-loop-k
invariant-loop-k l = record {
  tallied : Tallied l.paragraphs.note.now l.at l.ends l.held;
  at_is : l.at ≡ from l.paragraphs.note.now l.paragraphs.list.now l.k;
}
