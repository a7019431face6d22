-- The tail of a link, with its destination and title, lies within what follows the closing bracket.
use Rattle.std.specs.Prelude.{None, Option as Found, Some}
use Rattle.std.proofs.lemmas.Option.{none-some}
use Prim.Native.Nat.{ℕ, ◌+◌, ◌-◌, ◌≤◌, ◌<◌}
use native.Mathlib.Omega.{arith}
use mathlib.Core.Path.{◌≡◌, refl, subst}
use mathlib.Core.Option.{Option, none, some}
use mathlib.Core.List.{List}
use mathlib.Core.Bool.{Bool, true, false}
use borrow.Author.Tests.{eqb-true}
use lib.ListN.{length, get_or, take, drop}
use lib.Dec.{eqb}
use Rattle.scan.proofs.Test.{by, and_right}
use Rattle.scan.proofs.Scan.{peek_inside}
use Rattle.label.specs.Reading.{is_label}
use Rattle.label.proofs.Label.{label_end_inside}
use Rattle.target.proofs.Destinations.{destination_within}
use Rattle.target.proofs.Titles.{title_within}
use Rattle.target.specs.declared.Part.{Part}
use Rattle.target.specs.Reading.{destination_of, title_of}
use Rattle.row.specs.declared.Range.{Range}
use Rattle.row.specs.Row.{range}
use Rattle.row.specs.Reading.{first_match}
use Rattle.inline.specs.declared.InlineParts.{InlineParts}
use Rattle.inline.specs.Tails.{Tail, length_of}
use Rattle.inline.specs.ReadingTails.{space_end, closed_at, titled, after_destination, body_of, inline_of, label_after, empty_after, full_by, short_by, text_tail, reference_by, tail_by, tail_of}

-- the part ends by place n
pub record RangeIn (r : Range) (n : ℕ) : Type 0 where
  pub ordered : r.start ≤ r.end
  pub inside : r.end ≤ n

abbrev pub PartIn : Found Range → ℕ → Type 0
PartIn (Some r) n = RangeIn r n
PartIn None n = Unit {0}

-- the tail lies within s, and its destination and title within the tail
pub record InlineWithin (s : List ℕ) (q : InlineParts) : Type 0 where
  pub size : q.size ≤ length s
  pub destination : PartIn q.destination q.size
  pub title : PartIn q.title q.size

abbrev FitsIn : List ℕ → Found InlineParts → Type 0
FitsIn s (Some q) = InlineWithin s q
FitsIn s None = Unit {0}

later : (r : Found Range) (n m : ℕ) → PartIn r n → n ≤ m → PartIn r m
later (Some r) n m p h = record { ordered = p.ordered; inside = omega (arith, p.inside) }
later None n m p h = tt

module _ (s : List ℕ) where
  closed_fits : (h : ℕ) (d t : Found Range) → PartIn d h → PartIn t h → FitsIn s (closed_at s h d t)
  unfolding closed_at
  closed_fits h d t i j =
      by (eqb (get_or s h 0) 41)
      (λ e.
      let l : h < length s = peek_inside s h (λ z. let c = eqb-true (get_or s h 0) 41 e in omega arith) in
      rw e (record { size = omega arith; destination = later d h (h + 1) i (omega arith); title = later t h (h + 1) j (omega arith) }))
      (λ e. rw e tt)

  titled_fits : (h : ℕ) (d : Range) (t : Found Part) → title_of (drop h s) h ≡ t → RangeIn d h → FitsIn s (titled s h d t)
  titled_fits h d (Some t) q i =
      let w = (title_within s h t.start t.end t.next q).2 in
      closed_fits (space_end s t.next) (Some d) (Some (range t.start t.end)) (later (Some d) h (space_end s t.next) i (omega (arith, w.moves))) (record { ordered = w.order; inside = omega (arith, w.high) })
  titled_fits h d None q i = closed_fits h (Some d) None i tt

  after_fits : (n h : ℕ) (d : Range) → RangeIn d h → FitsIn s (after_destination s n h d)
  unfolding after_destination
  after_fits n h d i =
      by (eqb h n) (λ e. rw (e, after_destination) (closed_fits h (Some d) None i tt))
      (λ e. rw (e, after_destination) (titled_fits h d (title_of (drop h s) h) refl i))

  body_fits : (g : ℕ) (d : Found Part) → destination_of (drop g s) g ≡ d → FitsIn s (body_of s g d)
  body_fits g (Some d) q =
      let w = (destination_within s g d.start d.end d.next q).2 in
      after_fits d.next (space_end s d.next) (range d.start d.end) (record { ordered = w.order; inside = omega (arith, w.high) })
  body_fits g None q = closed_fits (space_end s g) None None tt tt

  inline_fits : FitsIn s (inline_of s)
  unfolding inline_of
  inline_fits =
      let g = space_end s 1 in
      by (eqb (get_or s 0 0) 40) (λ e. rw (e, inline_of) (body_fits g (destination_of (drop g s) g) refl)) (λ e. rw (e, inline_of) tt)

  pub inline_of_within : (q : InlineParts) → inline_of s ≡ Some q → InlineWithin s q
  inline_of_within q e = subst (FitsIn s) e inline_fits

  abbrev TailFits : Option Tail → Type 0
  TailFits (some t) = length_of t ≤ length s
  TailFits none = Unit {0}

  full_fits : (e : ℕ) (f : Found ℕ) → e < length s → TailFits (full_by (e + 1) f)
  full_fits e (Some k) h = omega arith
  full_fits e None h = tt

  short_fits : (empty : Bool) (f : Found ℕ) → (empty ≡ true → 1 < length s) → TailFits (short_by empty f)
  short_fits true (Some k) h = omega (arith, h refl)
  short_fits false (Some k) h = omega arith
  short_fits empty None h = tt

  text_fits : (labels : List (List ℕ)) (text : List ℕ) → TailFits (text_tail labels text s)
  unfolding text_tail
  text_fits labels text =
      by (is_label text)
      (λ e. rw (e, text_tail)
      (short_fits (empty_after s) (first_match labels text)
      (λ k. peek_inside s 1 (λ z. let c = eqb-true (get_or s 1 0) 93 (and_right (eqb (get_or s 0 0) 91) _ k) in omega arith))))
      (λ e. rw (e, text_tail) tt)

  pub label_inside : (e : ℕ) → label_after s ≡ Some e → (1 ≤ e) × (e < length s)
  unfolding label_after
  label_inside e q = by (eqb (get_or s 0 0) 91) (λ k. label_end_inside s 1 e (rw (k, label_after) at q)) (λ k. absurd (none-some _ (rw (k, label_after) at q)))

  reference_fits : (labels : List (List ℕ)) (text : List ℕ) (f : Found ℕ) → label_after s ≡ f → TailFits (reference_by labels text s f)
  reference_fits labels text (Some e) q = full_fits e (first_match labels (take (e - 1) (drop 1 s))) (label_inside e q).1
  reference_fits labels text None q = text_fits labels text

  tail_fits : (labels : List (List ℕ)) (text : List ℕ) (at : ℕ) (f : Found InlineParts) → FitsIn s f → TailFits (tail_by labels text s at f)
  tail_fits labels text at (Some q) h = h.size
  tail_fits labels text at None h = reference_fits labels text (label_after s) refl

  pub tail_of_fits : (labels : List (List ℕ)) (text : List ℕ) (at : ℕ) (t : Tail) → tail_of labels text s at ≡ some t → length_of t ≤ length s
  unfolding tail_of
  tail_of_fits labels text at t e = subst TailFits e (tail_fits labels text at (inline_of s) inline_fits)
