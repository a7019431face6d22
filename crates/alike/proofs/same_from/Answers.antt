-- What is left of the two labels compares as at first; a turn passes what is the same in both, and one character of each.
use borrow.Author.Rules.{rules}
use native.Mathlib.Nat.{lt_of_lt_of_le}
use mathlib.Core.Path.{◌≡◌, refl, sym, ap, ◌∙◌}
use borrow.Author.Tests.{leb-true, leb-false}
use Rattle.std.specs.Ordering.{nat_cmp}
use Rattle.std.proofs.lemmas.Iterator.Consumers.{YieldsList-from_first}
use Rattle.std.proofs.lemmas.Iterator.Search.{cmp_from_yields_List}
use Rattle.alike.specs.Left.{form}
use Rattle.alike.proofs.Bytes.{ties}
use Rattle.alike.proofs.Left.{ink_at}
use Rattle.alike.proofs.Turn.{level_inside, uneven, level_over, word_on}
use Rattle.alike.proofs.Run.{first_differs, first_agrees, whole_agrees, opens_less}
use Rattle.alike.proofs.same_from.Goals as goal

pub loop-x-init : goal.loop-x-init
loop-x-init c = (search rules, search rules, refl)

pub returns-then-not-are_level : goal.returns-then-not-are_level
returns-then-not-are_level c =
    let x = c.after-x.ensures in
    let y = c.after-y.ensures in
    let ev = rw (x.label, x.from, y.label, y.from) at c.are_level.ensures in
    let inv = sym c.same_run-n.ensures.alike ∙ c.loop-x.invariant.2 in
    uneven _ _ _ _ _ _ x.at y.at ev inv c.if-not-are_level.true

pub returns-then-is_over : goal.returns-then-is_over
returns-then-is_over c =
    let x = c.after-x.ensures in
    let y = c.after-y.ensures in
    let ev = rw (x.label, x.from, y.label, y.from) at c.are_level.ensures in
    let inv = sym c.same_run-n.ensures.alike ∙ c.loop-x.invariant.2 in
    level_over _ _ _ _ _ _ x.at y.at ev inv c.if-not-are_level.false (leb-true _ _ (rw x.label at (sym c.is_over.ensures ∙ c.if-is_over.true)))

pub character_at-own-requires-clause-p_value : goal.character_at-own-requires-clause-p_value
character_at-own-requires-clause-p_value c =
    let x = c.after-x.ensures in
    let h = leb-false _ _ (rw x.label at (sym c.is_over.ensures ∙ c.if-is_over.false)) in
    ink_at _ _ _ x.at h

pub character_at-other-requires : goal.character_at-other-requires
character_at-other-requires c =
    let x = c.after-x.ensures in
    let y = c.after-y.ensures in
    let ev = rw (x.label, x.from, y.label, y.from) at c.are_level.ensures in
    let h = leb-false _ _ (rw x.label at (sym c.is_over.ensures ∙ c.if-is_over.false)) in
    let k = level_inside _ _ _ _ _ _ ev c.if-not-are_level.false h in
    record { p_in_bounds = k; p_value = ink_at _ _ _ y.at k }

pub returns-then-own-other : goal.returns-then-own-other
returns-then-own-other c =
    let x = c.after-x.ensures in
    let y = c.after-y.ensures in
    let ev = rw (x.label, x.from, y.label, y.from) at c.are_level.ensures in
    let inv = sym c.same_run-n.ensures.alike ∙ c.loop-x.invariant.2 in
    let h = leb-false _ _ (rw x.label at (sym c.is_over.ensures ∙ c.if-is_over.false)) in
    let w = word_on _ _ _ _ _ _ x.at y.at ev inv c.if-not-are_level.false h in
    let o = c.character_at-own.ensures in
    let u = c.character_at-other.ensures in
    first_differs _ _ _ _ o.opens u.opens w c.if-own-other.true

pub returns-then-own-other-2 : goal.returns-then-own-other-2
returns-then-own-other-2 c =
    let x = c.after-x.ensures in
    let y = c.after-y.ensures in
    let ev = rw (x.label, x.from, y.label, y.from) at c.are_level.ensures in
    let inv = sym c.same_run-n.ensures.alike ∙ c.loop-x.invariant.2 in
    let h = leb-false _ _ (rw x.label at (sym c.is_over.ensures ∙ c.if-is_over.false)) in
    let w = word_on _ _ _ _ _ _ x.at y.at ev inv c.if-not-are_level.false h in
    let o = c.character_at-own.ensures in
    let u = c.character_at-other.ensures in
    let own = c.character_at-own.result.rest in
    let other = c.character_at-other.result.rest in
    let l = form own.label.now own.at own.left in
    let m = form other.label.now other.at other.left in
    let k = cmp_from_yields_List (λ s t. t ≡ s) other nat_cmp c.cmp.result c.cmp.ensures.ran (YieldsList-from_first (λ b. b) (λ f. form f.label.now f.at f.left) l refl) (λ it e. YieldsList-from_first (λ b. b) (λ f. form f.label.now f.at f.left) m (ap (λ f. form f.label.now f.at f.left) e)) (λ s t. refl) in
    c.is_eq.ensures ∙ ties c.cmp.result l m k ∙ rw (o.label, u.label) (first_agrees _ _ _ _ o.opens u.opens w c.if-own-other.false)

pub loop-x-smaller : goal.loop-x-smaller
loop-x-smaller c =
    let x = c.after-x.ensures in
    let h = leb-false _ _ (rw x.label at (sym c.is_over.ensures ∙ c.if-is_over.false)) in
    lt_of_lt_of_le (opens_less _ _ _ x.at h c.character_at-own.ensures.opens) c.same_run-n.ensures.less

pub loop-x-preserved : goal.loop-x-preserved
loop-x-preserved c =
    let x = c.after-x.ensures in
    let y = c.after-y.ensures in
    let ev = rw (x.label, x.from, y.label, y.from) at c.are_level.ensures in
    let inv = sym c.same_run-n.ensures.alike ∙ c.loop-x.invariant.2 in
    let h = leb-false _ _ (rw x.label at (sym c.is_over.ensures ∙ c.if-is_over.false)) in
    let w = word_on _ _ _ _ _ _ x.at y.at ev inv c.if-not-are_level.false h in
    let o = c.character_at-own.ensures in
    let u = c.character_at-other.ensures in
    (search rules, search rules, whole_agrees _ _ _ _ o.opens u.opens w c.if-own-other.false c.if-own-other-2.false)
