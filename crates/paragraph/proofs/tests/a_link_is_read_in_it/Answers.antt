-- The paragraph is the whole note, and no line was asked for before it.
use native.Mathlib.Omega.{arith}
use Rattle.line.proofs.Lines.{none_before}
use Rattle.paragraph.proofs.tests.a_link_is_read_in_it.Goals as goal

pub read_paragraph-answer-requires-clause-lies : goal.read_paragraph-answer-requires-clause-lies
read_paragraph-answer-requires-clause-lies g c =
    rw c.first.ensures record {
      ordered = omega arith;
      inside = omega arith;
      places = omega arith;
      definitions = omega arith;
      rows = omega arith;
      line = none_before _;
    }
