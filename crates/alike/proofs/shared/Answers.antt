-- Bytes beyond ASCII are passed as they are, ASCII bytes where they are alike when folded.
use native.Mathlib.Omega.{arith}
use mathlib.Core.Path.{sym, ◌∙◌}
use Rattle.alike.proofs.Quick.{count_left}
use Rattle.alike.proofs.Run.{shared_run, shared_ascii}
use Rattle.alike.proofs.shared.Goals as goal

pub returns-then-is_beyond : goal.returns-then-is_beyond
returns-then-is_beyond c = shared_run _ _ _ _ c.requires c.same_run-n.ensures c.if-n-eq0.false

pub overflow_add-result : goal.overflow_add-result
overflow_add-result c = let h = c.requires.left_inside in omega (arith, count_left _ _ _ _ _ c.same_count.ensures (omega arith))

pub returns : goal.returns
returns c = shared_ascii _ _ _ _ c.requires (rw (← c.byte.ensures, ← c.byte-2.ensures) (sym c.is_beyond.ensures ∙ c.if-is_beyond.false)) c.same_count.ensures
