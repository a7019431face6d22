-- Where the search ends stands the first row with an equal label, or there is none.
use Rattle.std.specs.Prelude.{Some}
use mathlib.Core.Path.{sym, ap, ◌∙◌}
use Rattle.index.specs.Index.{row_in}
use Rattle.index.specs.Rows.{HoldsAll}
use Rattle.index.proofs.Search.{found, missing}
use Rattle.finding.proofs.lookup.Goals as goal

pub returns-in-Ok : goal.returns-in-Ok
returns-in-Ok c =
    let f = c.in-Ok.ensures.found in
    let holds : HoldsAll c.args.rows.now.definitions.now c.args.rows.now.index.now = record { sorted = c.args.rows.now.sorted; covers = c.requires } in
    ap Some (c.row.ensures ∙ ap row_in c.entry.ensures) ∙ sym (found _ _ _ _ holds _ _ (rw c.new-sought.ensures at f.window) f.inside (rw c.new-sought.ensures at f.same))

pub returns-in-Err : goal.returns-in-Err
returns-in-Err c =
    let f = c.in-Err.ensures.missing in
    let holds : HoldsAll c.args.rows.now.definitions.now c.args.rows.now.index.now = record { sorted = c.args.rows.now.sorted; covers = c.requires } in
    sym (missing _ _ _ _ holds _ _ (rw c.new-sought.ensures at f.window) (rw c.new-sought.ensures at f.other))
