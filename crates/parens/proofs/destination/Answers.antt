-- A run that leaves a parenthesis open is no destination; one in angle brackets is read as before.
use Rattle.parens.proofs.Running.{unangled, left_over}
use mathlib.Core.Path.{◌∙◌}
use Rattle.parens.proofs.destination.Goals as goal

pub returns-then-peek-eq60 : goal.returns-then-peek-eq60
returns-then-peek-eq60 c = record {
  value = c.destination.ensures;
  prepared_2 = c.requires.prepared;
}

pub returns-then-run-ne0 : goal.returns-then-run-ne0
returns-then-run-ne0 c = record {
  value = left_over _ _ _ c.peek.ensures c.if-peek-eq60.false c.run_to_mark-run.ensures c.if-run-ne0.true;
  prepared_2 = c.prepare.ensures.prepared;
}

pub returns : goal.returns
returns c = record {
  value = unangled _ _ c.peek.ensures c.if-peek-eq60.false (c.raw_part.ensures ∙ c.run_to_mark-run.ensures);
  prepared_2 = c.requires.prepared;
}
