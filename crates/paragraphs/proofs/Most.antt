-- What the paragraphs passed and those left can have at the most comes to the whole.
use Prim.Native.Nat.{ℕ, ◌+◌, ◌-◌, ◌≤◌}
use native.Mathlib.Omega.{arith}
use mathlib.Core.Path.{◌≡◌, ap}
use mathlib.Core.Bool.{Bool, true, false, ◌&&◌}
use mathlib.Core.List.{List, [], ◌∷◌}
use borrow.Author.Tests.{leb-true, ltb-true}
use lib.Dec.{leb, ltb, eqb}
use lib.ListN.{length, get_or, drop, length-drop}
use lib.Seq.{length-take-le}
use Rattle.scan.proofs.Test.{and_left, and_right}
use Rattle.definition.specs.Reading.{paragraphs}
use Rattle.row.specs.Row.{range}
use Rattle.row.specs.First.{bytes_of}
use Rattle.walk.specs.Reading.{paragraphs_from}
use Rattle.walk.specs.Promise.{FirstParagraph}
use Rattle.walk.proofs.Whole.{all_paragraphs}
use Rattle.most.specs.Most.{ends_span, bit, ends, stays, held, ends_of, held_of}
use Rattle.note.specs.Note.{depth_limit}
use Rattle.paragraphs.specs.Spans.{Surely}

-- ---- no more than there are bytes
small : (y : Bool) → bit y ≤ 1
small true = omega arith
small false = omega arith

ends_length : (p : List ℕ) → ends p ≤ length p
unfolding ends
ends_length [] = omega arith
ends_length (b ∷ p) = omega (arith, ends_length p, small (ends_span b (get_or p 0 0)))

held_length : (p : List ℕ) → held p ≤ length p
unfolding held
held_length [] = omega arith
held_length (b ∷ p) = omega (arith, held_length p, small (eqb b 91 && stays p))

-- at place `at` of the note s
pub record Tallied (s : List ℕ) (at e h : ℕ) : Type 0 where
  pub ends_are : e + ends_of (paragraphs_from s at) ≡ ends_of (paragraphs s)
  pub held_are : h + held_of (paragraphs_from s at) ≡ held_of (paragraphs s)
  pub few_ends : e ≤ at
  pub few_held : h ≤ at
  pub inside : at ≤ length s

module _ (s : List ℕ) where
  pub tallied_starts : Tallied s 0 0 0
  tallied_starts = record {
    ends_are = omega (arith, ap ends_of (all_paragraphs s));
    held_are = omega (arith, ap held_of (all_paragraphs s));
    few_ends = omega arith;
    few_held = omega arith;
    inside = omega arith;
  }

  module _ {at e h : ℕ} (t : Tallied s at e h) where
    pub all_tallied : paragraphs_from s at ≡ [] → {rows : ℕ} → (leb e rows && ltb h depth_limit) ≡ true → Surely s rows
    unfolding ends_of held_of
    all_tallied none_left {rows} y =
        let a = rw none_left at t.ends_are in
        let b = rw none_left at t.held_are in
        record {
          enough = omega (arith, leb-true e rows (and_left (leb e rows) (ltb h depth_limit) y));
          never = omega (arith, ltb-true h depth_limit (and_right (leb e rows) (ltb h depth_limit) y));
        }

    module _ {a z n : ℕ} (here : FirstParagraph s at a z n) where
      abbrev p : List ℕ
      p = bytes_of s (range a z)

      size : length p ≡ z - a
      size = length-take-le (z - a) (drop a s) (omega (arith, length-drop a s, here.ends, here.inside))

      pub part_inside : (a ≤ z) × (z ≤ length s)
      part_inside = (here.ordered, omega (arith, here.ends, here.inside))

      pub part_short : length p ≤ length s
      part_short = omega (arith, size, here.ends, here.inside)

      pub tallied_more : {e' h' : ℕ} → e' ≡ ends p → h' ≡ held p → Tallied s n (e + e') (h + h')
      unfolding ends_of held_of
      tallied_more ee eh =
          let a = rw here.first at t.ends_are in
          let b = rw here.first at t.held_are in
          record {
            ends_are = omega arith;
            held_are = omega arith;
            few_ends = omega (arith, t.few_ends, ends_length p, size, here.low, here.ends, here.ordered);
            few_held = omega (arith, t.few_held, held_length p, size, here.low, here.ends, here.ordered);
            inside = here.inside;
          }
