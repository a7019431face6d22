-- The row's parts lie within its text, and so do those of the row that is found before it.
use native.Mathlib.Omega.{arith}
use Prim.Native.Nat.{◌<◌}
use lib.ListN.{length}
use Rattle.row.specs.Listing.{texts_of}
use Rattle.joined.specs.Reading.{joined}
use Rattle.conflict.proofs.Turns.{row_there, row_parts, looked_up_lem, earlier, by_row, by_none}
use Rattle.conflict.proofs.row_conflicts.Goals as goal

pub rows_differ-requires : goal.rows_differ-requires
rows_differ-requires c =
    let l = c.requires.joined.listing in
    let h : c.args.k < length (joined (texts_of c.args.d.now)) = omega (arith, c.requires.k_in_bounds, c.requires.joined.count) in
    let j = earlier l h (looked_up_lem l h c.lookup.ensures c.label.ensures c.in-Some.is) in record {
      j_bound = row_there l (omega (arith, j, h));
      k_bound = row_there l h;
      parts_within = row_parts l (omega (arith, j, h));
      parts_within_2 = row_parts l h;
    }

pub returns-in-Some : goal.returns-in-Some
returns-in-Some c =
    let l = c.requires.joined.listing in
    let h : c.args.k < length (joined (texts_of c.args.d.now)) = omega (arith, c.requires.k_in_bounds, c.requires.joined.count) in
    by_row l h (looked_up_lem l h c.lookup.ensures c.label.ensures c.in-Some.is) c.rows_differ.ensures

pub returns-in-None : goal.returns-in-None
returns-in-None c =
    let l = c.requires.joined.listing in
    let h : c.args.k < length (joined (texts_of c.args.d.now)) = omega (arith, c.requires.k_in_bounds, c.requires.joined.count) in
    by_none l h (looked_up_lem l h c.lookup.ensures c.label.ensures c.in-None.is)
