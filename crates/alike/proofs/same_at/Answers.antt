-- The two ways through are the two answers of the first test of `same`.
use borrow.Author.Tests.{leb-false}
use lib.ListN.{length}
use lib.Dec.{leb}
use Rattle.scan.proofs.Test.{neither}
use Rattle.alike.specs.Reading.{same}
use Rattle.alike.proofs.same_at.Goals as goal

pub returns-then-a-i : goal.returns-then-a-i
unfolding same
returns-then-a-i c = simp c.if-a-i.true

pub bounds-a-i : goal.bounds-a-i
bounds-a-i c = leb-false _ _ (neither _ _ c.if-a-i.false).0

pub bounds-b-j : goal.bounds-b-j
bounds-b-j c =
    let s = c.args in leb-false _ _ (neither (leb (length s.a.now) s.i) _ c.if-a-i.false).1

pub returns : goal.returns
unfolding same
returns c = simp c.if-a-i.false
