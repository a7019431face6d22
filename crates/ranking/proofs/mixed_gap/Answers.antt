-- Both ways through are the two arms of `mix_gap`.
use mathlib.Core.Path.{refl, sym, ◌∙◌}
use Rattle.ranking.specs.Gap.{mix_gap}
use Rattle.ranking.proofs.mixed_gap.Goals as goal

pub returns-then-has_gap : goal.returns-then-has_gap
unfolding mix_gap
returns-then-has_gap c = rw (sym c.has_gap.ensures ∙ c.if-has_gap.true) c.mixed_in.ensures

pub returns : goal.returns
unfolding mix_gap
returns c = rw (sym c.has_gap.ensures ∙ c.if-has_gap.false) refl
