-- A row with a new key repeats no label; for another the lookup tells the first row of its label.
use mathlib.Core.Path.{◌∙◌}
use borrow.Author.Tests.{le-ltb}
use Rattle.index.specs.Rows.{HoldsAll}
use Rattle.repeats.proofs.Turns.{row_there, both_there, new_row, found_none, found_later, found_earlier}
use Rattle.repeats.proofs.row_conflicts.Goals as goal

pub returns-then-is_new : goal.returns-then-is_new
returns-then-is_new c =
    let r = c.requires in
    let holds : HoldsAll c.args.rows.now.definitions.now c.args.rows.now.index.now = record { sorted = c.args.rows.now.sorted; covers = r.covers } in
    new_row r.joined.listing r.joined.count holds r.p_lt_count r.k_value (c.is_new.ensures c.if-is_new.true)

pub label-requires : goal.label-requires
label-requires c =
    let r = c.requires in
    let holds : HoldsAll c.args.rows.now.definitions.now c.args.rows.now.index.now = record { sorted = c.args.rows.now.sorted; covers = r.covers } in
    row_there r.joined.listing r.joined.count holds r.p_lt_count r.k_value

pub returns-in-None : goal.returns-in-None
returns-in-None c =
    let r = c.requires in
    let holds : HoldsAll c.args.rows.now.definitions.now c.args.rows.now.index.now = record { sorted = c.args.rows.now.sorted; covers = r.covers } in
    found_none r.joined.listing r.joined.count holds r.p_lt_count r.k_value c.label.ensures c.lookup.ensures c.in-None.is

pub rows_differ-requires : goal.rows_differ-requires
rows_differ-requires c =
    let r = c.requires in
    let holds : HoldsAll c.args.rows.now.definitions.now c.args.rows.now.index.now = record { sorted = c.args.rows.now.sorted; covers = r.covers } in
    let both = both_there r.joined.listing r.joined.count holds r.p_lt_count r.k_value c.if-j-k.true in record {
      j_bound = both.0;
      k_bound = both.1.0;
      parts_within = both.1.1.0;
      parts_within_2 = both.1.1.1;
    }

pub returns-then-j-k : goal.returns-then-j-k
returns-then-j-k c =
    let r = c.requires in
    let holds : HoldsAll c.args.rows.now.definitions.now c.args.rows.now.index.now = record { sorted = c.args.rows.now.sorted; covers = r.covers } in
    found_earlier r.joined.listing r.joined.count holds r.p_lt_count r.k_value c.label.ensures c.lookup.ensures c.in-Some.is c.if-j-k.true c.rows_differ.ensures

pub returns-else-j-k : goal.returns-else-j-k
returns-else-j-k c =
    let r = c.requires in
    let holds : HoldsAll c.args.rows.now.definitions.now c.args.rows.now.index.now = record { sorted = c.args.rows.now.sorted; covers = r.covers } in
    le-ltb _ _ c.if-j-k.false ∙ found_later r.joined.listing r.joined.count holds r.p_lt_count r.k_value c.label.ensures c.lookup.ensures c.in-Some.is c.if-j-k.false
