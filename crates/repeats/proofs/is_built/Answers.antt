-- The first number tells whether the index holds the rows.
use mathlib.Core.Path.{sym, ◌∙◌}
use borrow.Author.Tests.{eqb-true}
use Rattle.repeats.proofs.is_built.Goals as goal

pub returns-then-number_at : goal.returns-then-number_at
returns-then-number_at c = record { holds = λ e. c.requires (sym c.number_at.ensures ∙ c.if-number_at.true); ready = c.requires }

pub returns : goal.returns
returns c =
    let r = c.build.ensures in record {
      holds = λ e. r (sym c.number_at-2.ensures ∙ eqb-true _ _ e);
      ready = r;
    }
