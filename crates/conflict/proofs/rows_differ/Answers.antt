-- What is compared are the parts' bytes.
use mathlib.Core.Path.{sym, ◌∙◌}
use borrow.Author.Tests.{not-true}
use Rattle.row.specs.Listing.{texts_of}
use Rattle.row.specs.Reading.{listed_at}
use Rattle.conflict.proofs.Differences.{was_true}
use Rattle.conflict.proofs.Turns.{same_bytes, other_presence, other_destination, other_title}
use Rattle.conflict.proofs.rows_differ.Goals as goal

pub returns-then-eq : goal.returns-then-eq
returns-then-eq c =
    let d = c.args.d.now in
    other_presence (texts_of d) (listed_at d.table.now c.args.j) (listed_at d.table.now c.args.k) c.definition_at-a.ensures c.definition_at-b.ensures
    (rw c.absent-none.ensures at c.eq.ensures) (rw c.absent-none.ensures at c.eq-2.ensures) c.if-eq.true

pub returns-then-ne : goal.returns-then-ne
returns-then-ne c =
    let d = c.args.d.now in
    other_destination (texts_of d) (listed_at d.table.now c.args.j) (listed_at d.table.now c.args.k) c.definition_at-a.ensures c.definition_at-b.ensures
    (rw c.absent-none.ensures at c.eq.ensures) (rw c.absent-none.ensures at c.eq-2.ensures) c.if-eq.false
    c.text_at-x.ensures c.text_at-y.ensures c.part_of-first.ensures c.part_of-second.ensures (same_bytes _ _) (not-true _ (sym c.ne.ensures ∙ c.if-ne.true))

pub returns : goal.returns
returns c =
    let d = c.args.d.now in
    c.ne-2.ensures
    ∙ other_title (texts_of d) (listed_at d.table.now c.args.j) (listed_at d.table.now c.args.k) c.definition_at-a.ensures c.definition_at-b.ensures
    (rw c.absent-none.ensures at c.eq.ensures) (rw c.absent-none.ensures at c.eq-2.ensures) c.if-eq.false
    c.text_at-x.ensures c.text_at-y.ensures c.part_of-first.ensures c.part_of-second.ensures (same_bytes _ _) (was_true _ (sym c.ne.ensures ∙ c.if-ne.false))
    c.part_of-first-2.ensures c.part_of-second-2.ensures (same_bytes _ _)
