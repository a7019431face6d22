-- Both numbers are entries, and one comes before the other.
use mathlib.Core.Path.{sym}
use mathlib.Core.Bool.{true≢false}
use Rattle.indexing.proofs.Turn.{follows_first, follows_on}
use Rattle.indexing.proofs.keyed.Keyed.follows.Goals as goal

pub returns-then-not-is_entry : goal.returns-then-not-is_entry
returns-then-not-is_entry c = λ e. absurd (true≢false (sym e))

pub returns-then-p-eq0 : goal.returns-then-p-eq0
returns-then-p-eq0 c = λ e. follows_first _ _ (c.is_entry.ensures c.if-not-is_entry.false) c.if-p-eq0.true

pub returns-then-not-is_entry-2 : goal.returns-then-not-is_entry-2
returns-then-not-is_entry-2 c = λ e. absurd (true≢false (sym e))

pub comes_before-requires : goal.comes_before-requires
comes_before-requires c = record {
  entry = c.is_entry-2.ensures c.if-not-is_entry-2.false;
  entry_2 = c.is_entry.ensures c.if-not-is_entry.false;
}

pub returns : goal.returns
returns c = λ e. follows_on _ _ (c.is_entry.ensures c.if-not-is_entry.false) c.if-p-eq0.false (c.comes_before.ensures e)
