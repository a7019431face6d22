-- The places passed follow one another.
use native.Mathlib.Omega.{arith}
use mathlib.Core.Path.{sym}
use mathlib.Core.Bool.{true≢false}
use borrow.Author.Count.{below_more}
use Rattle.indexing.specs.Building.{Follows}
use Rattle.indexing.proofs.Turn.{sorted_all}
use Rattle.indexing.proofs.keyed.Keyed.is_sorted.Goals as goal

pub loop-p-init : goal.loop-p-init
loop-p-init c = λ k h. absurd (omega arith)

pub returns-then-not-follows : goal.returns-then-not-follows
returns-then-not-follows c = λ e. absurd (true≢false (sym e))

pub loop-p-preserved : goal.loop-p-preserved
loop-p-preserved c = below_more (Follows _ _ _ _) _ c.loop-p.invariant (c.follows.ensures c.if-not-follows.false)

pub returns : goal.returns
returns c = λ e. sorted_all _ (omega arith) (λ p h. c.loop-p.invariant p (omega arith))
