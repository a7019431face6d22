-- What is left of the two labels compares as the whole labels do, and each way through a turn is one law of comparing.
use borrow.Author.Rules.{rules}
use native.Mathlib.Omega.{arith}
use mathlib.Core.Path.{sym, ◌∙◌}
use borrow.Author.Tests.{leb-true, leb-false}
use Rattle.alike.proofs.Left.{past_from}
use Rattle.alike.proofs.Turn.{differ, both_over, meets, shared_on}
use Rattle.alike.proofs.Quick.{unlike_first, count_start}
use Rattle.alike.proofs.same_or_places.Goals as goal

pub returns-then-are_unlike-clause-told : goal.returns-then-are_unlike-clause-told
returns-then-are_unlike-clause-told c = sym (unlike_first _ _ c.peek.ensures c.peek-2.ensures c.are_unlike.ensures c.if-are_unlike.true)

pub loop-x-init : goal.loop-x-init
loop-x-init c = (search rules, search rules, count_start _ _ c.same_count-i.ensures)

pub returns-then-is_apart_from-clause-told : goal.returns-then-is_apart_from-clause-told
returns-then-is_apart_from-clause-told c =
    let x = c.after-x.ensures in
    let y = c.after-y.ensures in
    let ev = rw (x.label, x.from, y.label, y.from) at c.is_apart_from.ensures in
    differ _ _ _ _ _ _ x.at y.at ev c.loop-x.invariant.2 c.if-is_apart_from.true

pub returns-then-is_over-clause-told : goal.returns-then-is_over-clause-told
returns-then-is_over-clause-told c =
    let x = c.after-x.ensures in
    let y = c.after-y.ensures in
    let ev = rw (x.label, x.from, y.label, y.from) at c.is_apart_from.ensures in
    both_over _ _ _ _ _ _ x.at y.at ev c.if-is_apart_from.false c.loop-x.invariant.2 (leb-true _ _ (rw x.label at (sym c.is_over.ensures ∙ c.if-is_over.true)))

pub shared-requires : goal.shared-requires
shared-requires c =
    let x = c.after-x.ensures in
    let y = c.after-y.ensures in
    let ev = rw (x.label, x.from, y.label, y.from) at c.is_apart_from.ensures in
    let h = leb-false _ _ (rw x.label at (sym c.is_over.ensures ∙ c.if-is_over.false)) in
    rw (x.label, y.label) (meets _ _ _ _ _ _ x.at y.at ev c.if-is_apart_from.false h)

pub overflow_add-i : goal.overflow_add-i
overflow_add-i c =
    let s = rw (c.after-x.ensures.label, c.after-y.ensures.label) at c.in-Some.ensures in
    omega (arith, s.left_fits, c.loop-x.invariant.0)

pub overflow_add-j : goal.overflow_add-j
overflow_add-j c =
    let s = rw (c.after-x.ensures.label, c.after-y.ensures.label) at c.in-Some.ensures in
    omega (arith, s.right_fits, c.loop-x.invariant.1)

pub loop-x-smaller : goal.loop-x-smaller
loop-x-smaller c =
    let x = c.after-x.ensures in
    let s = rw (x.label, c.after-y.ensures.label) at c.in-Some.ensures in
    omega (arith, s.left_fits, past_from _ _ _ x.at, s.some)

pub loop-x-preserved : goal.loop-x-preserved
loop-x-preserved c =
    let x = c.after-x.ensures in
    let y = c.after-y.ensures in
    let ev = rw (x.label, x.from, y.label, y.from) at c.is_apart_from.ensures in
    let h = leb-false _ _ (rw x.label at (sym c.is_over.ensures ∙ c.if-is_over.false)) in
    let v = c.loop-x.invariant in
    (v.0, v.1, shared_on _ _ _ _ _ _ x.at y.at ev c.if-is_apart_from.false v.2 h (rw (x.label, y.label) at c.in-Some.ensures))
