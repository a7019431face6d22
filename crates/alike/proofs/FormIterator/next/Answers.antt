-- Each way through is one step off the form.
use borrow.Author.Rules.{rules}
use mathlib.Core.Path.{sym, ◌∙◌}
use borrow.Author.Tests.{leb-true, leb-false}
use Rattle.alike.proofs.Left.{ink_at}
use Rattle.alike.proofs.Bytes.{step_left, step_over, step_gap, step_open, less}
use Rattle.alike.proofs.FormIterator.next.Goals as goal

pub returns-then-self-ne0 : goal.returns-then-self-ne0
returns-then-self-ne0 c =
    let s = c.args.self.now in
    let e = step_left s.label.now s.at s.left c.if-self-ne0.true (search rules) in
    record { steps = e; goes = record { on = λ f. (tt, tt, less _ _ e); keeps = tt; rests = λ f. tt } }

pub returns-then-is_over-clause-steps : goal.returns-then-is_over-clause-steps
returns-then-is_over-clause-steps c =
    let x = c.after-place.ensures in
    let e = step_over _ _ _ _ c.if-self-ne0.false x.at (leb-true _ _ (rw x.label at (sym c.is_over.ensures ∙ c.if-is_over.true))) in
    (e, e)

pub returns-then-has_gap : goal.returns-then-has_gap
returns-then-has_gap c =
    let x = c.after-place.ensures in
    let h = leb-false _ _ (rw x.label at (sym c.is_over.ensures ∙ c.if-is_over.false)) in
    let e = step_gap _ _ _ _ c.if-self-ne0.false x.at h (rw x.from at (sym c.has_gap.ensures ∙ c.if-has_gap.true)) in
    record { steps = e; goes = record { on = λ f. (tt, tt, less _ _ e); keeps = tt; rests = λ f. tt } }

pub character_at-byte-requires-clause-p_value : goal.character_at-byte-requires-clause-p_value
character_at-byte-requires-clause-p_value c =
    let x = c.after-place.ensures in
    ink_at _ _ _ x.at (leb-false _ _ (rw x.label at (sym c.is_over.ensures ∙ c.if-is_over.false)))

pub returns : goal.returns
returns c =
    let x = c.after-place.ensures in
    let o = c.character_at-byte.ensures in
    let h = leb-false _ _ (rw x.label at (sym c.is_over.ensures ∙ c.if-is_over.false)) in
    let e = step_open _ _ _ _ c.if-self-ne0.false x.at h (rw x.from at (sym c.has_gap.ensures ∙ c.if-has_gap.false)) o.opens in
    record { steps = rw o.label e; goes = record { on = λ f. (tt, tt, rw o.label (less _ _ e)); keeps = tt; rests = λ f. tt } }
