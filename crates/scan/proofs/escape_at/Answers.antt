-- The two bytes at the front of what is left are those at `i` and `i + 1`.
use native.Mathlib.Nat.{add-zero}
use lib.ListN.{drop_of_length-le}
use lib.Seq.{get_or-drop}
use borrow.Author.Tests.{eq-eqb, ne_eqb}
use Rattle.scan.proofs.escape_at.Goals as goal

pub returns-then-s-i : goal.returns-then-s-i
returns-then-s-i c = rw (drop_of_length-le c.args.s.now c.if-s-i.true)

pub returns-then-s-i-ne92 : goal.returns-then-s-i-ne92
returns-then-s-i-ne92 c = simp (get_or-drop, add-zero, ne_eqb _ 92 c.if-s-i-ne92.true)

pub returns : goal.returns
returns c = simp (c.is_punctuation.ensures, c.peek.ensures, get_or-drop, add-zero, eq-eqb _ 92 c.if-s-i-ne92.false)
