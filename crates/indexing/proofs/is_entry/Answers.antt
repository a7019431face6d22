-- A number that stands at its row among the entries is one.
use mathlib.Core.Path.{sym}
use mathlib.Core.Bool.{true≢false}
use Rattle.indexing.proofs.Turn.{entry_is}
use Rattle.indexing.proofs.is_entry.Goals as goal

pub returns-then-count-k : goal.returns-then-count-k
returns-then-count-k c = λ e. absurd (true≢false (sym e))

pub returns : goal.returns
returns c = entry_is _ _ c.args.entries.now c.requires.entries c.row-k.ensures c.if-count-k.false
