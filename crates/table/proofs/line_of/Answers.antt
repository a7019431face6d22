-- A row fits where its number is less than that of the whole rows.
use Rattle.line.proofs.Lines.{not_asked, asked}
use Rattle.row.specs.Row.{opening}
use Rattle.table.proofs.line_of.Goals as goal

pub returns-then-whole_rows-k : goal.returns-then-whole_rows-k
returns-then-whole_rows-k c = let a = c.args in not_asked a.s.now a.from (opening a.d) a.k _ (rw c.whole_rows.ensures at c.if-whole_rows-k.true)

pub returns : goal.returns
returns c = let a = c.args in asked a.s.now a.from (opening a.d) a.k _ (rw c.whole_rows.ensures at c.if-whole_rows-k.false) c.line_at.ensures
