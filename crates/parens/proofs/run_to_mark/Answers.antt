-- A table that is made has the marks; without one the run is the longest.
use mathlib.Core.Path.{ap, ◌∙◌}
use lib.ListN.{length, take, drop}
use Rattle.target.proofs.Turns.{unmarked}
use Rattle.target.specs.Reading.{judged}
use Rattle.parens.proofs.Parts.{own_marks}
use Rattle.parens.proofs.Running.{to_mark}
use Rattle.parens.proofs.run_to_mark.Goals as goal

pub returns-then-marks-n : goal.returns-then-marks-n
returns-then-marks-n c =
    let a = c.args in
    let s = a.s.now in
    ap (judged a.at) c.raw_run.ensures ∙ to_mark s (take (length s) a.marks.now) a.at (own_marks s a.marks.now (c.requires.prepared.made c.if-marks-n.true)) c.requires.at_value

pub returns : goal.returns
returns c = let a = c.args in ap (judged a.at) (c.raw_run-2.ensures ∙ unmarked (drop a.at a.s.now) a.at)
