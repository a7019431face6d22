-- The rows passed stand where their places say.
use native.Mathlib.Omega.{arith}
use mathlib.Core.Path.{sym}
use mathlib.Core.Bool.{true≢false}
use borrow.Author.Count.{below_more}
use Rattle.index.specs.Index.{Stands}
use Rattle.indexing.proofs.is_whole.Goals as goal

pub loop-k-init : goal.loop-k-init
loop-k-init c = λ k h. absurd (omega arith)

pub returns-then-not-stands : goal.returns-then-not-stands
returns-then-not-stands c = λ e. absurd (true≢false (sym e))

pub loop-k-preserved : goal.loop-k-preserved
loop-k-preserved c = below_more (Stands _ _) _ c.loop-k.invariant (c.stands.ensures c.if-not-stands.false)

pub returns : goal.returns
returns c = λ e l h. c.loop-k.invariant l (omega arith)
