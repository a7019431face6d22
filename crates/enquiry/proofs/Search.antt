-- The turns of the search in one text: no definition is left, the next one has an equal label, or it has another.
use Rattle.std.specs.Prelude.{None, Option, Some}
use Prim.Native.Nat.{ℕ, ◌-◌, ◌≤◌, ◌<◌}
use native.Mathlib.Omega.{arith}
use mathlib.Core.Path.{◌≡◌, refl, sym, ap, ◌∙◌}
use mathlib.Core.List.{List, [], Memᴰ}
use mathlib.Core.Bool.{Bool, true, false}
use lib.ListN.{length}
use Rattle.matching.specs.Reading.{matches}
use Rattle.row.specs.declared.Definition.{Definition}
use Rattle.row.specs.Row.{listed}
use Rattle.row.specs.First.{bytes_of}
use Rattle.definition.specs.Reading.{definitions}
use Rattle.walk.specs.declared.Cursor.{Cursor}
use Rattle.walk.specs.declared.Next.{Next}
use Rattle.walk.specs.Reading.{definitions_after}
use Rattle.walk.specs.Promise.{Standing, FirstDefinition, IsNext}
use Rattle.walk.proofs.Steps.{cursor}
use Rattle.walk.proofs.Whole.{all_definitions}
use Rattle.walk.proofs.Places.{Lies, definitions_lie}
use Rattle.joined.specs.Joined.{listed_in}
use Rattle.enquiry.specs.declared.Destination.{Destination}
use Rattle.enquiry.specs.Answers.{own_labels}
use Rattle.enquiry.specs.Reading.{answer_by, answer_in, answer_of}
use Rattle.enquiry.proofs.Lookup.{none_left, equal_here, other_here}

-- what the first of these definitions of the text s, which has the number k, gives
abbrev among : ℕ → List ℕ → List ℕ → List Definition → Option Destination
among k s label ds = answer_in (own_labels s ds) label (listed_in k ds)

-- reading stands at c, and the definitions left there give what all of them do
pub record Searching (s : List ℕ) (k : ℕ) (label : List ℕ) (c : Cursor) : Type 0 where
  pub same : among k s label (definitions_after s c) ≡ answer_of k s label
  pub left : (d : Definition) → Memᴰ d (definitions_after s c) → Memᴰ d (definitions s)
  pub within : Standing s c

module _ (s : List ℕ) (k : ℕ) (label : List ℕ) where
  pub starts : Searching s k label (cursor 0 0)
  unfolding answer_of
  starts = record {
    same = ap (among k s label) (all_definitions s);
    left = λ d m. rw (all_definitions s) at m;
    within = record { ordered = omega arith; inside = omega arith };
  }

  module _ {c : Cursor} (so_far : Searching s k label c) where
    pub stands : Standing s c
    stands = so_far.within

    pub none_equal : definitions_after s c ≡ [] → None ≡ answer_of k s label
    none_equal none = sym (none_left label) ∙ ap (among k s label) (sym none) ∙ so_far.same

    module _ {d : Definition} {c' : Cursor} (here : FirstDefinition s c d c') where
      in_text : Memᴰ d (definitions s)
      in_text = so_far.left d (rw here.first (Memᴰ.head refl))

      lies : Lies s d
      lies = definitions_lie s d in_text

      pub label_ordered : d.label.start ≤ d.label.end
      label_ordered = lies.places.label

      pub label_inside : d.label.end ≤ length s
      label_inside = let p = lies.places in omega (arith, p.apart, p.destination, p.ends, p.inside)

      pub less : length s - c'.at < length s - c.at
      less = omega (arith, here.starts, here.onward, here.within.ordered, here.within.inside)

      -- v is whether its label is equal
      module _ {v : Bool} (tells : v ≡ matches (bytes_of s d.label) label) where
        abbrev after : List Definition
        after = definitions_after s c'

        pub equal : v ≡ true → Some (answer_by (listed k d)) ≡ answer_of k s label
        equal t =
            sym (equal_here label (bytes_of s d.label) (own_labels s after) (listed k d) (listed_in k after) (sym tells ∙ t))
            ∙ ap (among k s label) (sym here.first) ∙ so_far.same

        pub other : v ≡ false → Searching s k label c'
        other t = record {
          same =
              sym (other_here label (bytes_of s d.label) (own_labels s after) (listed k d) (listed_in k after) (sym tells ∙ t))
              ∙ ap (among k s label) (sym here.first) ∙ so_far.same;
          left = λ i m. so_far.left i (rw here.first (Memᴰ.tail m));
          within = here.within;
        }
