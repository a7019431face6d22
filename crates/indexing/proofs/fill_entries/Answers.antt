-- The entries of the rows passed are stored.
use borrow.Author.Rules.{rules}
use native.Mathlib.Omega.{arith}
use Rattle.matching.specs.Reading.{compared}
use Rattle.row.specs.Listing.{texts_of}
use Rattle.indexing.proofs.Turn.{key_small, entry_more}
use Rattle.indexing.proofs.fill_entries.Goals as goal

pub loop-k-init : goal.loop-k-init
loop-k-init c = (c.requires.entries_len, λ k h. absurd (omega arith))

pub new-requires : goal.new-requires
new-requires c = let z = key_small (compared c.label.result.now) in record { key_bound = omega (arith, c.key_of.ensures); row_bound = omega arith }

pub loop-k-preserved : goal.loop-k-preserved
loop-k-preserved c =
    let d = c.args.d.now in
    let l = c.loop-k in
    (search rules, entry_more (texts_of d) d.table.now l.entries l.k (omega arith) c.label.ensures c.key_of.ensures c.new.ensures l.invariant.1)

pub returns : goal.returns
returns c = λ k h. c.loop-k.invariant.1 k (omega arith)
