-- Each return keeps the promise, by what was checked, counted and stored before it.
use native.Mathlib.Omega.{arith}
use Prim.Native.Nat.{◌≤◌, ◌<◌}
use lib.ListN.{length}
use Rattle.texts.specs.Texts.{texts}
use Rattle.row.specs.Row.{whole_rows}
use Rattle.joined.specs.Reading.{joined}
use Rattle.joined.proofs.Few.{few_joined}
use Rattle.notice.proofs.Returns.{faulty, good, too_few, fit, defined, all_read, handed_on}
use Rattle.notice.proofs.read_listed.Goals as goal
use Rattle.notice.proofs.read_listed.Goals.{After-fill_joined-filled, then-rows-note+else-rows-needed, else-rows-note}

pub returns-in_err-check-clause-promise : goal.returns-in_err-check-clause-promise
returns-in_err-check-clause-promise c =
    faulty (texts c.args.note.now c.args.sheet.now) c.args.definitions.now c.args.spans.now c.check.ensures.answer c.in_err-check.was _ c.from_residual.ensures.1

pub fill_joined-needed-requires : goal.fill_joined-needed-requires
fill_joined-needed-requires c =
    let w = good (texts c.args.note.now c.args.sheet.now) c.check.ensures.answer c.in_ok-check.was in
    record { note_len_bound = w.note.short; sheet_len_bound = w.sheet.short; note_in_bounds = c.requires w.note.short }

pub returns-then-rows-needed-clause-promise : goal.returns-then-rows-needed-clause-promise
returns-then-rows-needed-clause-promise c =
    let T = texts c.args.note.now c.args.sheet.now in
    let few : whole_rows c.args.definitions.now < c.fill_joined-needed.result.definitions = omega (arith, c.whole_rows-rows.ensures, c.if-rows-needed.true) in
    too_few T c.args.definitions.now c.args.spans.now (good T c.check.ensures.answer c.in_ok-check.was) c.fill_joined-needed.ensures.counted few

pub fill_joined-filled-requires : goal.fill_joined-filled-requires
fill_joined-filled-requires c =
    let w = good (texts c.args.note.now c.args.sheet.now) c.check.ensures.answer c.in_ok-check.was in
    record { note_len_bound = w.note.short; sheet_len_bound = w.sheet.short; note_in_bounds = omega (arith, c.requires w.note.short, c.if-rows-note.auto.list) }

-- the rows are enough, by the lengths of the texts or since the definitions were counted
enough : (c : After-fill_joined-filled) → length (joined (texts c.args.note.now c.args.sheet.now)) ≤ whole_rows c.args.definitions.now
enough c =
    elim c.if-rows-note.branch [
      | then-rows-note+else-rows-needed w ↦ omega (arith, w.if-rows-needed.false, w.fill_joined-needed.ensures.counted, c.whole_rows-rows.ensures)
      | else-rows-note w ↦ omega (arith, few_joined (texts c.args.note.now c.args.sheet.now), w.if-rows-note.false, c.whole_rows-rows.ensures)
    ]

pub invariant_of-defined : goal.invariant_of-defined
invariant_of-defined c =
    let T = texts c.args.note.now c.args.sheet.now in
    record { fit = fit T c.args.definitions.now c.args.spans.now (good T c.check.ensures.answer c.in_ok-check.was) c.fill_joined-filled.ensures.counted (enough (goal.at.invariant_of-defined c).After-fill_joined-filled) c.fill_joined-filled.ensures.stored }

pub read_joined-requires-clause-defined : goal.read_joined-requires-clause-defined
read_joined-requires-clause-defined c =
    let T = texts c.args.note.now c.args.sheet.now in
    defined T c.args.definitions.now c.args.spans.now (good T c.check.ensures.answer c.in_ok-check.was) c.fill_joined-filled.ensures.counted (enough (goal.at.read_joined-requires-clause-defined c).After-fill_joined-filled) c.fill_joined-filled.ensures.stored

pub returns-in_err-read_joined-clause-promise : goal.returns-in_err-read_joined-clause-promise
returns-in_err-read_joined-clause-promise c =
    let T = texts c.args.note.now c.args.sheet.now in
    all_read T c.args.definitions.now c.args.spans.now (good T c.check.ensures.answer c.in_ok-check.was) c.fill_joined-filled.ensures.counted (enough (goal.at.returns-in_err-read_joined-clause-promise c).After-fill_joined-filled) c.fill_joined-filled.ensures.stored
    c.read_joined.ensures (handed_on c.in_err-read_joined.was _ c.from_residual-in_err-read_joined.ensures.1)

pub returns-clause-promise : goal.returns-clause-promise
returns-clause-promise c =
    let T = texts c.args.note.now c.args.sheet.now in
    all_read T c.args.definitions.now c.args.spans.now (good T c.check.ensures.answer c.in_ok-check.was) c.fill_joined-filled.ensures.counted (enough (goal.at.returns-clause-promise c).After-fill_joined-filled) c.fill_joined-filled.ensures.stored
    c.read_joined.ensures c.in_ok-read_joined.was
