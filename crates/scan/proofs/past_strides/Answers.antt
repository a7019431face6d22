-- A slice of sixteen that passes is a stride.
use Rattle.std.proofs.Common.{rules, arith}
use Rattle.scan.proofs.Strides.{slice_told, strides_on, strides_stop, strides_end, strides_short}
use Rattle.scan.proofs.past_strides.Goals as goal

pub returns-then-s-i-lt16 : goal.returns-then-s-i-lt16
returns-then-s-i-lt16 g c = search (strides_short, rules)

pub returns-then-not-all_pass : goal.returns-then-not-all_pass
returns-then-not-all_pass g c =
    let told = slice_told (g.C.Class.has c.args.class.now) c.args.s.now c.loop-i.i 16 (omega arith) c.all_pass.ensures in
    search (strides_stop, told, rules)

pub loop-i-preserved : goal.loop-i-preserved
loop-i-preserved g c =
    let told = slice_told (g.C.Class.has c.args.class.now) c.args.s.now c.loop-i.i 16 (omega arith) c.all_pass.ensures in
    search (strides_on, told, rules)

pub returns : goal.returns
returns g c = search (strides_end, rules)
