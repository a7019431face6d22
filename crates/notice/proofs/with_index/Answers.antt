-- The index was made just now. With yes, the table holds the joined list; where no definition conflicts, or with no, the spans are read.
use native.Mathlib.Omega.{arith}
use mathlib.Core.Path.{sym, ◌∙◌}
use mathlib.Core.Bool.{true≢false}
use Rattle.row.specs.Listing.{texts_of}
use Rattle.notice.proofs.Returns.{holds_joined, fresh, conflict_within, stopped, goes_on}
use Rattle.notice.proofs.with_index.Goals as goal
use Rattle.notice.proofs.with_index.Goals.{then-release+in_default, else-release}

pub overflow_add-result : goal.overflow_add-result
overflow_add-result g c =
    omega (arith, conflict_within (texts_of c.args.definitions.now) c.first_conflict.ensures.value c.in-Some.is c.requires.defined.counted)

pub read_spans-requires-clause-ready : goal.read_spans-requires-clause-ready
read_spans-requires-clause-ready g c =
    elim c.if-release.branch [
      | then-release+in_default w ↦ rw w.index-is w.first_conflict.ensures.ready_2
      | else-release w ↦ rw w.index-is (fresh _ _ _ g.row.N)
    ]

pub first_conflict-requires : goal.first_conflict-requires
first_conflict-requires g c = record { joined = holds_joined c.args.definitions.now c.requires.defined; ready = fresh _ _ _ g.row.N }

pub returns-in-Some : goal.returns-in-Some
returns-in-Some g c = stopped c.if-release.true c.first_conflict.ensures.value c.in-Some.is

pub returns : goal.returns
returns g c =
    goes_on
    (elim c.if-release.branch [
      | then-release+in_default w ↦ λ y. sym w.first_conflict.ensures.value ∙ w.in_default.is
      | else-release w ↦ λ y. absurd (true≢false (sym y ∙ w.if-release.false))
    ])
    c.read_spans.ensures
