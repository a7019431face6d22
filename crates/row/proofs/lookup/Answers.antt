-- With the table or without it, the same rows are asked.
use native.Mathlib.Omega.{arith}
use mathlib.Core.Path.{◌∙◌}
use Rattle.row.proofs.Turn.{from_first, row_none}
use Rattle.row.proofs.lookup.Goals as goal

pub returns-then-d-eq0 : goal.returns-then-d-eq0
returns-then-d-eq0 c = let z = c.if-d-eq0.true in row_none _ _ _ (from_first _ _ _ _) (omega arith)

pub returns-then-first-peek : goal.returns-then-first-peek
returns-then-first-peek c = c.lookup_by_table.ensures ∙ from_first _ _ _ _
