-- The loop's state is the definition's state, and each way through a turn is one case of `closing_step`.
use Rattle.std.proofs.Common.{rules}
use Rattle.scan.specs.Reading.{closing}
use Rattle.scan.proofs.Scan.{stops, goes, ends}
use Rattle.scan.proofs.Closing.{closes, bars, passed}
use Rattle.scan.proofs.closing_place.Goals as goal

ruleset turns = (stops, goes, ends, closes, bars, passed, rules)

pub returns-then-inside-b : goal.returns-then-inside-b
returns-then-inside-b c = search turns

pub returns-then-inside-b-2 : goal.returns-then-inside-b-2
returns-then-inside-b-2 c = search turns

pub loop-i-preserved : goal.loop-i-preserved
loop-i-preserved c = search turns

pub loop-i-init : goal.loop-i-init
unfolding closing
loop-i-init c = search turns

pub returns : goal.returns
returns c = search turns
