-- What is left of the label mixes to its key; a turn takes a byte that is no blank, or blanks and the byte after them.
use borrow.Author.Rules.{rules}
use native.Mathlib.Omega.{arith}
use mathlib.Core.Path.{sym, ◌∙◌}
use borrow.Author.Tests.{leb-true, leb-false}
use Rattle.alike.proofs.Left.{past_from}
use Rattle.ranking.proofs.Plain.{key_begins, ink_inside, key_ink, key_over, key_plain}
use Rattle.ranking.proofs.key_of.Goals as goal

pub loop-h-init : goal.loop-h-init
loop-h-init c = (key_begins c.args.s.now, search rules)

pub overflow_add-i : goal.overflow_add-i
overflow_add-i c = omega (arith, ink_inside c.args.s.now c.loop-h.i c.peek-b.ensures c.if-b.true, c.loop-h.invariant.1)

pub loop-h-smaller-then-b : goal.loop-h-smaller-then-b
loop-h-smaller-then-b c = omega (arith, ink_inside c.args.s.now c.loop-h.i c.peek-b.ensures c.if-b.true)

pub loop-h-preserved-then-b : goal.loop-h-preserved-then-b
loop-h-preserved-then-b c = (key_ink c.args.s.now c.loop-h.i c.peek-b.ensures c.if-b.true _ c.loop-h.invariant.0 c.lowered.ensures c.mixed_in-h.ensures, c.loop-h.invariant.1)

pub returns-then-is_over : goal.returns-then-is_over
returns-then-is_over c =
    let x = c.after-place.ensures in
    c.front_of.ensures ∙ key_over _ _ _ _ x.at c.loop-h.invariant.0 (leb-true _ _ (rw x.label at (sym c.is_over.ensures ∙ c.if-is_over.true)))

pub returns-then-b-gt-ASCII : goal.returns-then-b-gt-ASCII
returns-then-b-gt-ASCII c = c.key_by_table.ensures ∙ c.loop-h.invariant.0

pub loop-h-smaller : goal.loop-h-smaller
loop-h-smaller c =
    let x = c.after-place.ensures in
    omega (arith, past_from _ _ _ x.at, leb-false _ _ (rw x.label at (sym c.is_over.ensures ∙ c.if-is_over.false)))

pub loop-h-preserved : goal.loop-h-preserved
loop-h-preserved c =
    let x = c.after-place.ensures in
    let h = leb-false _ _ (rw x.label at (sym c.is_over.ensures ∙ c.if-is_over.false)) in
    (key_plain _ _ _ _ x.at c.loop-h.invariant.0 h (rw x.label at c.byte-b.ensures) c.if-b-gt-ASCII.false c.lowered-in-loop-h.ensures (rw x.from at c.mixed_gap.ensures) c.mixed_in-h-in-loop-h.ensures, c.loop-h.invariant.1)
