use Rattle.std.proofs.Common.{◌∙◌}
use Rattle.scan.proofs.Strides.{past_through}
use Rattle.scan.proofs.past_long.Goals as goal

pub returns : goal.returns
returns g c =
    let has = g.C.Class.has c.args.class.now in
    c.past.ensures ∙ past_through has has (λ b e. e) c.args.s.now c.args.at c.past_strides.ensures
