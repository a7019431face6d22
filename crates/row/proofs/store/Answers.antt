-- The text, the three parts and the line put one after the other are the row put.
use borrow.Author.Rules.{rules}
use native.Mathlib.Omega.{arith}
use mathlib.Core.Path.{refl}
use lib.ListN.{length-set}
use Rattle.row.proofs.Put.{no_row, parts_put}
use Rattle.row.proofs.store.Goals as goal

pub store_range-requires : goal.store_range-requires
store_range-requires c = let h = rw c.whole_rows.ensures at c.if-k-whole_rows.true in record {
  at_in_bounds = simp length-set (omega arith);
  small_part = search rules;
}

pub store_range-requires-then-k-whole_rows : goal.store_range-requires-then-k-whole_rows
store_range-requires-then-k-whole_rows c = let h = rw c.whole_rows.ensures at c.if-k-whole_rows.true in let n = simp length-set at c.store_range.auto.table in record {
  at_in_bounds = omega (arith, h, n);
  small_part = search rules;
}

pub store_range-requires-then-k-whole_rows-2 : goal.store_range-requires-then-k-whole_rows-2
store_range-requires-then-k-whole_rows-2 c = let h = rw c.whole_rows.ensures at c.if-k-whole_rows.true in let n = simp length-set at c.store_range.auto.table in record {
  at_in_bounds = omega (arith, h, n, c.store_range-then-k-whole_rows.auto.table);
  small_part = search rules;
}

pub bounds-table-at-then-k-whole_rows : goal.bounds-table-at-then-k-whole_rows
bounds-table-at-then-k-whole_rows c = let h = rw c.whole_rows.ensures at c.if-k-whole_rows.true in let n = simp length-set at c.store_range.auto.table in omega (arith, h, n, c.store_range-then-k-whole_rows-2.auto.table, c.store_range-then-k-whole_rows.auto.table)

pub shape_of-table-then-k-whole_rows : goal.shape_of-table-then-k-whole_rows
shape_of-table-then-k-whole_rows c = let n = simp length-set at c.store_range.auto.table in simp length-set (omega (arith, n, c.store_range-then-k-whole_rows-2.auto.table, c.store_range-then-k-whole_rows.auto.table))

pub returns-then-k-whole_rows : goal.returns-then-k-whole_rows
returns-then-k-whole_rows c = let a = c.args in let n = simp length-set at c.store_range.auto.table in parts_put a.text a.line _ a.k a.d (rw c.whole_rows.ensures at c.if-k-whole_rows.true) refl c.store_range.ensures c.store_range-then-k-whole_rows.ensures c.store_range-then-k-whole_rows-2.ensures (omega (arith, n, c.store_range-then-k-whole_rows-2.auto.table, c.store_range-then-k-whole_rows.auto.table))

pub returns-else-k-whole_rows : goal.returns-else-k-whole_rows
returns-else-k-whole_rows c = let a = c.args in no_row a.text a.line _ a.k a.d (rw c.whole_rows.ensures at c.if-k-whole_rows.false)
