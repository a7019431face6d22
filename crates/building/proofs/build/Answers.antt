-- Whether the index holds the rows is stored last, before the entries.
use native.Mathlib.Omega.{arith}
use Prim.Native.Nat.{◌-◌}
use lib.ListN.{length}
use lib.Dec.{ltb}
use Rattle.index.specs.Index.{base}
use Rattle.indexing.specs.Building.{rows}
use borrow.Author.Tests.{ltb-false}
use Rattle.scan.proofs.Test.{neither}
use Rattle.row.specs.Listing.{texts_of}
use Rattle.building.proofs.Storing.{holds_kept, given_up}
use Rattle.building.proofs.build.Goals as goal

pub returns-then-index-lt-BASE : goal.returns-then-index-lt-BASE
returns-then-index-lt-BASE c = let d = c.args.d.now in rw c.put.ensures (given_up (texts_of d) d.table.now d.count c.args.index.now)

pub returns-then-d-index : goal.returns-then-d-index
returns-then-d-index c = let d = c.args.d.now in given_up (texts_of d) d.table.now d.count c.args.index.now

pub is_filled-requires : goal.is_filled-requires
is_filled-requires c =
    let n = c.args.d.now.count in
    let few = neither (ltb rows n) (ltb (length c.args.index.now - base) n) c.if-d-index.false in record {
      count_le_rows = ltb-false rows n few.0;
      count_in_bounds = omega (arith, ltb-false (length c.args.index.now - base) n few.1, c.if-index-lt-BASE.false);
    }

pub returns-then-is_filled : goal.returns-then-is_filled
returns-then-is_filled c =
    let d = c.args.d.now in
    λ e. holds_kept (texts_of d) d.table.now d.count _ _ (c.is_filled.ensures c.if-is_filled.true)

pub returns : goal.returns
returns c = let d = c.args.d.now in given_up (texts_of d) d.table.now d.count c.is_filled.new.index
