-- Each `return` is one case of `inline_of`.
use Rattle.std.specs.Prelude.{None, Option, Some}
use borrow.Author.Tests.{ne_eqb}
use Prim.Native.Nat.{ℕ}
use mathlib.Core.Path.{◌≡◌, sym, ◌∙◌}
use mathlib.Core.Bool.{false}
use mathlib.Core.List.{List}
use lib.ListN.{get_or, drop}
use Rattle.target.specs.Reading.{destination_of}
use Rattle.target.specs.declared.Part.{Part}
use Rattle.parens.specs.Unclosed.{slashed}
use Rattle.parens.proofs.Parts.{after_parenthesis}
use Rattle.row.specs.declared.Range.{Range}
use Rattle.row.specs.Row.{range}
use Rattle.inline.specs.ReadingTails.{space_end, closed_at, after_destination, inline_of}
use Rattle.inline.specs.declared.InlineParts.{InlineParts}
use Rattle.tail.proofs.inline_tail.Goals as goal

module _ (s : List ℕ) {b : ℕ} (eb : b ≡ get_or s 0 0) where
  unopened : (b ≡ 40 → ⊥) → None ≡ inline_of s
  unfolding inline_of
  unopened e = rw (inline_of, ← eb, ne_eqb b 40 e)

  module _ {r : Option InlineParts} (e : b ≡ 40) {g : ℕ} (eg : g ≡ space_end s 1) {p : Option Part} (ep : p ≡ destination_of (drop g s) g) where
    with_destination : {x : Part} {h : ℕ} {d : Range} → p ≡ Some x → h ≡ space_end s x.next → d ≡ range x.start x.end → r ≡ after_destination s x.next h d → r ≡ inline_of s
    unfolding inline_of
    with_destination q eh ed er = rw (er, ed, eh, inline_of, ← eb, e, ← eg, ← ep, q)

    without : {h : ℕ} → p ≡ None → h ≡ space_end s g → r ≡ closed_at s h None None → r ≡ inline_of s
    unfolding inline_of
    without q eh er = rw (er, eh, inline_of, ← eb, e, ← eg, ← ep, q)

-- where the destination starts
starts_plain : (s : List ℕ) {b g : ℕ} → b ≡ get_or s 0 0 → b ≡ 40 → g ≡ space_end s 1 → slashed s g ≡ false
starts_plain s eb e eg = rw eg (after_parenthesis s (sym eb ∙ e))

pub returns-then-peek-ne40 : goal.returns-then-peek-ne40
returns-then-peek-ne40 c = record {
  value = unopened _ c.peek.ensures c.if-peek-ne40.true;
  prepared = c.requires;
}

pub destination-requires : goal.destination-requires
destination-requires c = record {
  at_value = starts_plain _ c.peek.ensures c.if-peek-ne40.false c.space_end-g.ensures;
  prepared = c.requires;
}

pub returns-in_default-clause-value : goal.returns-in_default-clause-value
returns-in_default-clause-value c =
    without _ c.peek.ensures c.if-peek-ne40.false c.space_end-g.ensures c.destination.ensures.value c.in_default.is c.space_end.ensures c.closed_at.ensures

pub returns-clause-value : goal.returns-clause-value
returns-clause-value c =
    with_destination _ c.peek.ensures c.if-peek-ne40.false c.space_end-g.ensures c.destination.ensures.value c.in-Some.is c.space_end-2.ensures c.new.ensures c.after_destination.ensures
