-- A turn writes an escape or the byte at `i`, and the bytes after it that stand for themselves.
use native.Mathlib.Omega.{arith}
use Prim.Native.Nat.{◌+◌}
use lib.ListN.{take}
use Rattle.escaping.specs.Reading.{as_is}
use Rattle.escaping.proofs.AsIs.{run_low}
use Rattle.writer.proofs.Texts.{RunsText, runs, run_room, run_runs, unit_inside, unit_room, unit_runs}
use Rattle.writer.proofs.write_text.Goals as goal
use Rattle.writer.proofs.write_text.Goals.{After-put_escaped}

pub put_run-i-requires : goal.put_run-i-requires
put_run-i-requires c = let a = c.requires in run_room a.plain (runs a.plain {page₀ = c.args.page.now}) a.room

pub loop-i-init : goal.loop-i-init
loop-i-init c = λ sheet q. run_runs q (runs q) c.put_run-i.ensures.end c.put_run-i.ensures.grows

pub put_escaped-requires : goal.put_escaped-requires
put_escaped-requires c =
    let a = c.requires in
    unit_room a.plain (c.loop-i.invariant a.sheet a.plain) c.loop-i-test.true c.past_backslash-j.ensures a.room

-- the unit is written
unit : (c : After-put_escaped) → RunsText c.args.note.now c.args.end c.args.stop c.args.at c.args.page.now c.put_escaped.new.page (c.past_backslash-j.result + 1)
unit c = λ sheet q. unit_runs q (c.loop-i.invariant sheet q) c.loop-i-test.true c.past_backslash-j.ensures c.put_escaped.ensures

pub put_run-i-requires-in-loop-i : goal.put_run-i-requires-in-loop-i
put_run-i-requires-in-loop-i c =
    let a = c.requires in
    run_room a.plain (unit (goal.at.put_run-i-requires-in-loop-i c).After-put_escaped a.sheet a.plain) a.room

pub loop-i-smaller : goal.loop-i-smaller
loop-i-smaller c =
    let a = c.requires in
    omega (
      arith,
      c.loop-i-test.true,
      (unit_inside a.plain (c.loop-i.invariant a.sheet a.plain) c.loop-i-test.true c.past_backslash-j.ensures).0,
      run_low (as_is 92) (take c.args.stop c.args.note.now) (c.past_backslash-j.result + 1) c.put_run-i-in-loop-i.ensures.end,
    )

pub loop-i-preserved : goal.loop-i-preserved
loop-i-preserved c =
    λ sheet q. run_runs q (unit (goal.at.loop-i-preserved c).After-put_escaped sheet q) c.put_run-i-in-loop-i.ensures.end c.put_run-i-in-loop-i.ensures.grows
