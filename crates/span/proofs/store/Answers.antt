-- The two halves and the line put one after the other are the row put.
use native.Mathlib.Omega.{arith}
use Rattle.span.proofs.Put.{no_row, halves_put}
use Rattle.span.proofs.store.Goals as goal

pub returns-then-k-whole_rows : goal.returns-then-k-whole_rows
returns-then-k-whole_rows c = let a = c.args in halves_put a.line _ a.k a.s (rw c.whole_rows.ensures at c.if-k-whole_rows.true) c.store_half.ensures c.store_half-then-k-whole_rows.ensures (omega (arith, c.store_half-then-k-whole_rows.auto.table, c.store_half.auto.table))

pub returns-else-k-whole_rows : goal.returns-else-k-whole_rows
returns-else-k-whole_rows c = let a = c.args in no_row a.line _ a.k a.s (rw c.whole_rows.ensures at c.if-k-whole_rows.false)
