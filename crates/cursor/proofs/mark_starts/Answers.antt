-- The rows from row `k` on are in the table.
use Prim.Native.Nat.{ℕ, ◌-◌, ◌<◌}
use native.Mathlib.Omega.{arith}
use mathlib.Core.Path.{◌≡◌, sym, ap, ◌∙◌}
use mathlib.Core.Option.{some}
use mathlib.Core.List.{List}
use borrow.Author.Rules.{rules}
use lib.ListN.{get_elem?}
use Rattle.span.specs.Row.{numbers_on, row_at}
use Rattle.span.specs.Reading.{line_in}
use Rattle.page.specs.Reading.{row_start}
use Rattle.cursor.specs.Starts.{places, rows_from, described_from}
use Rattle.cursor.proofs.Rows.{row_read}
use Rattle.cursor.proofs.Starts.{rows_counted, row_there}
use Rattle.cursor.proofs.Marks.{none_marked, all_marked, inside, few, one_marked}
use Rattle.cursor.proofs.mark_starts.Goals as goal
use Rattle.cursor.proofs.mark_starts.Goals.{After-span_at-row}

pub loop-k-init : goal.loop-k-init
loop-k-init c =
    let a = c.args in
    (omega arith, none_marked (rows_from a.spans.now 0 a.count) (sym (rows_counted a.spans.now 0 a.count)) c.requires.starts_value)

pub span_at-row-requires : goal.span_at-row-requires
span_at-row-requires c = omega (arith, c.requires.count_bound, c.loop-k.invariant.0)

-- the row that is read, and where it starts
below : (c : After-span_at-row) → c.loop-k.k - 1 < c.args.count
below c = omega (arith, c.loop-k-test.true, c.loop-k.invariant.0)

there : (c : After-span_at-row)
    → get_elem? (rows_from c.args.spans.now 0 c.args.count) (c.loop-k.k - 1) ≡ some (row_at c.args.spans.now (c.loop-k.k - 1))
there c = row_there c.args.spans.now c.args.count _ (below c)

row : (c : After-span_at-row)
    → numbers_on (line_in c.args.spans.now (c.loop-k.k - 1)) c.span_at-row.result ≡ row_at c.args.spans.now (c.loop-k.k - 1)
row c = row_read c.args.spans.now c.requires.count_bound (below c) c.span_at-row.ensures

start : (c : After-span_at-row) → c.span_at-row.result.whole.start < places
start c = omega (arith, ap row_start (row c), inside c.requires.startable c.loop-k.invariant.1 c.loop-k-test.true (there c))

pub entry_of-requires : goal.entry_of-requires
entry_of-requires c = few c.requires.startable c.loop-k.invariant.1 c.loop-k-test.true (there (goal.at.entry_of-requires c).After-span_at-row)

pub offset_bounds-starts-at : goal.offset_bounds-starts-at
offset_bounds-starts-at c = search (start (goal.at.offset_bounds-starts-at c).After-span_at-row, rules)

pub bounds-starts-at : goal.bounds-starts-at
bounds-starts-at c = start (goal.at.bounds-starts-at c).After-span_at-row

pub loop-k-preserved : goal.loop-k-preserved
loop-k-preserved c =
    let l = c.loop-k in (
      omega (arith, below (goal.at.loop-k-preserved c).After-span_at-row),
      one_marked c.requires.startable l.invariant.1 c.loop-k-test.true (there (goal.at.loop-k-preserved c).After-span_at-row) _
          (c.described_from-from.ensures (line_in c.args.spans.now (l.k - 1)) ∙ ap (λ (x : List ℕ). described_from x l.from) (row (goal.at.loop-k-preserved c).After-span_at-row)) _ (ap row_start (row (goal.at.loop-k-preserved c).After-span_at-row)) c.entry_of.ensures,
    )

pub returns : goal.returns
returns c = let l = c.loop-k in all_marked c.requires.startable l.invariant.1 c.loop-k-test.false
