-- Each `return` is one case of `after_destination`.
use Rattle.std.specs.Prelude.{None, Option, Some}
use borrow.Author.Rules.{rules}
use borrow.Author.Tests.{eq-eqb, ne_eqb}
use Prim.Native.Nat.{ℕ}
use mathlib.Core.Path.{◌≡◌}
use mathlib.Core.List.{List}
use lib.ListN.{drop}
use Rattle.target.specs.Reading.{title_of}
use Rattle.target.specs.declared.Part.{Part}
use Rattle.row.specs.declared.Range.{Range}
use Rattle.row.specs.Row.{range}
use Rattle.inline.specs.ReadingTails.{space_end, closed_at, after_destination}
use Rattle.inline.specs.declared.InlineParts.{InlineParts}
use Rattle.tail.proofs.after_destination.Goals as goal

module _ (s : List ℕ) (n h : ℕ) (d : Range) {r : Option InlineParts} where
  near : h ≡ n → r ≡ closed_at s h (Some d) None → r ≡ after_destination s n h d
  unfolding after_destination
  near e er = rw (er, eq-eqb h n e, after_destination)

  module _ (e : h ≡ n → ⊥) {p : Option Part} (ep : p ≡ title_of (drop h s) h) where
    with_title : {x : Part} {k : ℕ} {t : Range} → p ≡ Some x → k ≡ space_end s x.next → t ≡ range x.start x.end → r ≡ closed_at s k (Some d) (Some t) → r ≡ after_destination s n h d
    unfolding after_destination
    with_title q ek et er = rw (er, et, ek, ne_eqb h n e, after_destination, ← ep, q)

    without : p ≡ None → r ≡ closed_at s h (Some d) None → r ≡ after_destination s n h d
    unfolding after_destination
    without q er = rw (er, ne_eqb h n e, after_destination, ← ep, q)

ruleset ways = (near, with_title, without, rules)

pub returns-then-h-n : goal.returns-then-h-n
returns-then-h-n c = search ways

pub returns-in_default : goal.returns-in_default
returns-in_default c = search ways

pub returns : goal.returns
returns c = search ways
