-- A turn writes what the byte at `i` is, and a run.
use Rattle.std.proofs.Common.{◌+◌, arith}
use Rattle.escaping.specs.Reading.{as_is}
use Rattle.escaping.proofs.AsIs.{run_low}
use Rattle.escaping.proofs.Gives.{begins, run_room, run_gives}
use Rattle.code.proofs.Runs.{code_keeps, byte_room, byte_gives, all_mapped}
use Rattle.code.proofs.put_code_bytes.Goals as goal

pub put_run-i-requires : goal.put_run-i-requires
put_run-i-requires c = run_room 10 code_keeps {s = c.args.s.now} {p₀ = c.args.page.now} begins c.requires

pub loop-i-init : goal.loop-i-init
loop-i-init c = run_gives 10 code_keeps begins c.put_run-i.ensures.end c.put_run-i.ensures.grows

pub put_escaped-requires : goal.put_escaped-requires
put_escaped-requires c = byte_room c.loop-i.invariant c.spaced_byte.ensures c.loop-i-test.true c.requires

pub put_run-i-requires-in-loop-i : goal.put_run-i-requires-in-loop-i
put_run-i-requires-in-loop-i c =
    run_room 10 code_keeps (byte_gives c.loop-i.invariant c.spaced_byte.ensures c.loop-i-test.true c.put_escaped.ensures) c.requires

pub loop-i-smaller : goal.loop-i-smaller
loop-i-smaller c = omega (arith, c.loop-i-test.true, run_low (as_is 10) c.args.s.now (c.loop-i.i + 1) c.put_run-i-in-loop-i.ensures.end)

pub loop-i-preserved : goal.loop-i-preserved
loop-i-preserved c =
    run_gives 10 code_keeps (byte_gives c.loop-i.invariant c.spaced_byte.ensures c.loop-i-test.true c.put_escaped.ensures)
    c.put_run-i-in-loop-i.ensures.end c.put_run-i-in-loop-i.ensures.grows

pub returns : goal.returns
returns c = all_mapped c.loop-i.invariant c.loop-i-test.false
