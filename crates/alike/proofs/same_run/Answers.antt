-- Of the bytes that are the same, the last is left where it begins a character.
use native.Mathlib.Omega.{arith}
use mathlib.Core.Path.{refl}
use Rattle.alike.proofs.Run.{passed_none, run_inside, run_back, run_whole}
use Rattle.alike.proofs.same_run.Goals as goal

pub returns-then-n-eq0 : goal.returns-then-n-eq0
returns-then-n-eq0 c = passed_none _ _ _ _

pub overflow_add-i : goal.overflow_add-i
overflow_add-i c = omega (arith, run_inside _ _ _ _ _ _ c.same_count-n.ensures c.if-n-eq0.false)

pub bounds-a-i : goal.bounds-a-i
bounds-a-i c = omega (arith, run_inside _ _ _ _ _ _ c.same_count-n.ensures c.if-n-eq0.false, c.if-n-eq0.false)

pub returns-then-begins_pair : goal.returns-then-begins_pair
returns-then-begins_pair c = run_back _ _ _ _ _ _ c.same_count-n.ensures c.if-n-eq0.false

pub returns : goal.returns
returns c = run_whole _ _ _ _ _ _ c.same_count-n.ensures c.if-n-eq0.false refl c.begins_pair.ensures c.if-begins_pair.false
