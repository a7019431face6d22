-- The byte, and whether an escape starts with it, decide the piece.
use Rattle.step.proofs.Openings.{none_there}
use Rattle.step.proofs.Step.{step_quiet}
use Rattle.inline.proofs.Pieces.{byte_no_code}
use Rattle.inline.proofs.Turns.{from_escape, from_byte}
use lib.ListN.{get_or}
use borrow.Author.Tests.{ne_eqb}
use mathlib.Core.Path.{refl, sym, ◌∙◌}
use Rattle.step.proofs.pass_piece.Goals as goal

pub returns-then-escape_at : goal.returns-then-escape_at
returns-then-escape_at c = record {
  passes = ((λ labels ds. let a = c.args in step_quiet _ _ _ labels ds a.w _ _ (from_escape a.p.now a.w.at (sym c.escape_at.ensures ∙ c.if-escape_at.true)) refl _ _), refl, c.requires.lined.before);
  ready_2 = c.requires.ready;
}

pub returns : goal.returns
returns c = record {
  passes = ((λ labels ds. let a = c.args in step_quiet _ _ _ labels ds a.w _ _ (from_byte a.p.now a.w.at (sym c.escape_at.ensures ∙ c.if-escape_at.false) (ne_eqb _ 96 c.if-p-at-eq96.false) (none_there a.p.now a.w.at c.requires.at_value).1) (byte_no_code (get_or a.p.now a.w.at 0)) _ _), refl, c.requires.lined.before);
  ready_2 = c.requires.ready;
}
