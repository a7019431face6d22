-- The loop's state is the definition's state, and each way through a turn is one case of `step_to`.
use borrow.Author.Rules.{rules}
use borrow.Author.Tests.{ne_eqb}
use mathlib.Core.Path.{sym, ◌∙◌}
use Rattle.scan.proofs.Test.{and_false}
use Rattle.scan.proofs.Scan.{stops, goes}
use Rattle.target.specs.Reading.{run_to}
use Rattle.target.proofs.Turns.{halted_to, given_up, passed_to, deeper, run_whole}
use Rattle.target.proofs.raw_run.Goals as goal
use Rattle.target.proofs.raw_run.Goals.{else-b-eq40-via-then-b-eq40+else-marked, else-b-eq40-via-else-b-eq40}

ruleset turns = (stops, goes, halted_to, given_up, passed_to, deeper, run_whole, rules)

pub loop-i-init : goal.loop-i-init
unfolding run_to
loop-i-init c = search turns

pub returns-then-b-inside : goal.returns-then-b-inside
returns-then-b-inside c = search turns

pub returns-then-marked : goal.returns-then-marked
returns-then-marked c = stops _ _ c.args.s.now c.loop-i.i c.loop-i.invariant.1 c.loop-i-test.true (given_up _ _ _ _ c.if-b-inside.false c.if-b-eq40.true c.marked.ensures c.if-marked.true)

pub loop-i-preserved : goal.loop-i-preserved
loop-i-preserved c = (
  deeper _ _ _ c.depth_after-depth.ensures c.loop-i.invariant.0,
  goes _ _ c.args.s.now c.loop-i.i c.loop-i.invariant.1 c.loop-i-test.true
      (passed_to _ _ _ _ c.if-b-inside.false
      (elim c.else-b-eq40.branch [ else-b-eq40-via-then-b-eq40+else-marked w ↦ simp (sym w.marked.ensures ∙ w.if-marked.false) | else-b-eq40-via-else-b-eq40 w ↦ simp (ne_eqb _ 40 w.if-b-eq40.false, and_false) ])
      c.escape_at.ensures c.depth_after-depth.ensures),
)

pub returns : goal.returns
returns c = search turns
