-- By the keys where they differ, else by the labels.
use native.Mathlib.Omega.{arith}
use mathlib.Core.Path.{sym, ◌∙◌}
use Rattle.row.specs.Listing.{texts_of}
use Rattle.searching.proofs.Turn.{key_below, key_above, key_level, label_same}
use Rattle.searching.proofs.rank_at.Goals as goal

pub returns-then-own-sought : goal.returns-then-own-sought
returns-then-own-sought c =
    let a = c.args in
    key_below a.rows.now.sorted _ c.requires _ a.sought.now.keyed c.entry-e.ensures c.key-own.ensures c.if-own-sought.true

pub returns-then-sought-own : goal.returns-then-sought-own
returns-then-sought-own c =
    let a = c.args in
    key_above a.rows.now.sorted _ c.requires _ a.sought.now.keyed c.entry-e.ensures c.key-own.ensures c.if-sought-own.true

pub label-label-requires : goal.label-label-requires
label-label-requires c = let i = (c.args.rows.now.sorted.entries c.args.p c.requires).row in omega (arith, c.row.ensures, rw (← c.entry-e.ensures) at i)

pub returns-then-are_equal : goal.returns-then-are_equal
returns-then-are_equal c =
    let d = c.args.rows.now.definitions.now in
    label_same (texts_of d) d.table.now c.entry-e.ensures c.row.ensures c.label-label.ensures _ (sym c.are_equal.ensures ∙ c.if-are_equal.true)

pub returns : goal.returns
returns c =
    let a = c.args in
    key_level a.rows.now.sorted _ c.requires _ a.sought.now.keyed c.entry-e.ensures c.key-own.ensures c.if-own-sought.false c.if-sought-own.false c.row.ensures c.label-label.ensures c.compare.ensures
