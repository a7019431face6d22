-- The rows from row k on give what all of them do, and what is left of a row's label compares as the whole does.
use borrow.Author.Rules.{rules}
use native.Mathlib.Omega.{arith}
use mathlib.Core.Path.{refl, sym, ◌∙◌}
use borrow.Author.Tests.{leb-true, leb-false}
use Rattle.alike.proofs.Left.{past_from}
use Rattle.alike.proofs.Turn as turn
use Rattle.alike.proofs.Quick.{unlike_first, count_start}
use Rattle.row.proofs.Turn.{from_first, row_hit, row_miss, row_none}
use Rattle.row.proofs.lookup_bytes.Goals as goal

pub rows-init : goal.rows-init
rows-init c = from_first _ _ _ _

pub rows-preserved-then-are_unlike : goal.rows-preserved-then-are_unlike
rows-preserved-then-are_unlike c =
    row_miss _ _ _ c.rows.invariant c.if-d-k.false c.label-own.ensures (unlike_first _ _ c.peek.ensures c.peek-first.ensures c.are_unlike.ensures c.if-are_unlike.true)

pub loop-own-init : goal.loop-own-init
loop-own-init c = (refl, search rules, search rules, count_start _ _ c.same_count-i.ensures)

pub rows-preserved : goal.rows-preserved
rows-preserved c =
    let x = c.after-x.ensures in
    let y = c.after-y.ensures in
    let v = c.loop-own.invariant in
    let ev = rw (x.label, x.from, y.label, y.from) at c.is_apart_from.ensures in
    let e = turn.differ _ _ _ _ _ _ x.at y.at ev v.3 c.if-is_apart_from.true in
    rw v.0 (row_miss _ _ _ c.rows.invariant c.if-d-k.false c.label-own.ensures (sym e))

pub shared-requires : goal.shared-requires
shared-requires c =
    let x = c.after-x.ensures in
    let y = c.after-y.ensures in
    let ev = rw (x.label, x.from, y.label, y.from) at c.is_apart_from.ensures in
    let h = leb-false _ _ (rw x.label at (sym c.is_over.ensures ∙ c.if-is_over.false)) in
    rw (x.label, y.label) (turn.meets _ _ _ _ _ _ x.at y.at ev c.if-is_apart_from.false h)

pub loop-own-smaller : goal.loop-own-smaller
loop-own-smaller c =
    let x = c.after-x.ensures in
    let s = rw (x.label, c.after-y.ensures.label) at c.in-Some.ensures in
    omega (arith, s.left_fits, past_from _ _ _ x.at, s.some)

pub loop-own-preserved : goal.loop-own-preserved
loop-own-preserved c =
    let x = c.after-x.ensures in
    let y = c.after-y.ensures in
    let ev = rw (x.label, x.from, y.label, y.from) at c.is_apart_from.ensures in
    let h = leb-false _ _ (rw x.label at (sym c.is_over.ensures ∙ c.if-is_over.false)) in
    let v = c.loop-own.invariant in
    (v.0, v.1, v.2, turn.shared_on _ _ _ _ _ _ x.at y.at ev c.if-is_apart_from.false v.3 h (rw (x.label, y.label) at c.in-Some.ensures))

pub returns-then-d-k : goal.returns-then-d-k
returns-then-d-k c = row_none _ _ _ c.rows.invariant c.if-d-k.true

pub returns-then-is_over : goal.returns-then-is_over
returns-then-is_over c =
    let x = c.after-x.ensures in
    let y = c.after-y.ensures in
    let v = c.loop-own.invariant in
    let ev = rw (x.label, x.from, y.label, y.from) at c.is_apart_from.ensures in
    let e = turn.both_over _ _ _ _ _ _ x.at y.at ev c.if-is_apart_from.false v.3 (leb-true _ _ (rw x.label at (sym c.is_over.ensures ∙ c.if-is_over.true))) in
    rw v.0 (row_hit _ _ _ c.rows.invariant c.if-d-k.false c.label-own.ensures (sym e))
