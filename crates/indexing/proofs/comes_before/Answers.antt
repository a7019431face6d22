-- Keys that differ tell which row comes first; else their labels do.
use native.Mathlib.Omega.{arith}
use mathlib.Core.Path.{sym}
use mathlib.Core.Bool.{true≢false}
use Rattle.indexing.proofs.Turn.{before_key, before_less, before_tied}
use Rattle.indexing.proofs.comes_before.Goals as goal

pub returns-then-g-h : goal.returns-then-g-h
returns-then-g-h c = λ e. before_key c.requires.entry c.requires.entry_2 c.key-g.ensures c.key-h.ensures c.if-g-h.true

pub returns-then-h-g : goal.returns-then-h-g
returns-then-h-g c = λ e. absurd (true≢false (sym e))

pub label-requires : goal.label-requires
label-requires c = omega (arith, c.requires.entry.row, c.row-k.ensures)

pub label-requires-2 : goal.label-requires-2
label-requires-2 c = omega (arith, c.requires.entry_2.row, c.row-l.ensures)

pub returns-in-Less : goal.returns-in-Less
returns-in-Less c = λ e. before_less c.requires.entry c.requires.entry_2 c.key-g.ensures c.key-h.ensures c.if-g-h.false c.if-h-g.false c.row-k.ensures c.row-l.ensures c.label.ensures c.label-2.ensures c.compare.ensures c.in-Less.is

pub returns-in-Equal : goal.returns-in-Equal
returns-in-Equal c = before_tied c.requires.entry c.requires.entry_2 c.key-g.ensures c.key-h.ensures c.if-g-h.false c.if-h-g.false c.row-k.ensures c.row-l.ensures c.label.ensures c.label-2.ensures c.compare.ensures c.in-Equal.is
