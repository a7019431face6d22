-- The tail of a pair by what the calls answer: each premise is a fact that the code has there.
use Rattle.std.specs.Prelude.{None, Option, Some}
use Rattle.std.proofs.lemmas.Option.{none-some}
use Prim.Native.Nat.{ℕ, ◌+◌, ◌-◌, ◌≤◌}
use mathlib.Core.Path.{◌≡◌, refl, sym, ap, ◌∙◌}
use mathlib.Core.Bool.{Bool, true, false}
use mathlib.Core.Option.{none}
use mathlib.Core.List.{List}
use native.Mathlib.Omega.{arith}
use borrow.Author.Tests.{eq-eqb, ne_eqb}
use lib.ListN.{length, get_or, take, drop}
use Rattle.label.specs.Reading.{label_end, is_label}
use Rattle.row.specs.declared.listing.Definitions.{Definitions}
use Rattle.row.specs.Listing.{row_with}
use Rattle.row.specs.Reading.{first_match, row_of}
use Rattle.inline.specs.ReadingTails.{inline_of, label_after, empty_after, full_by, short_by, text_tail, reference_by, reference_of, tail_by, tail_of}
use Rattle.inline.proofs.TailBounds.{label_inside}
use Rattle.inline.specs.declared.InlineParts.{InlineParts}
use Rattle.tail.specs.Ending.{all_labels, length_to, label_length}

module _ (d : Definitions) where
  pub full_by_lem : (n : ℕ) (label : List ℕ) (f : Option ℕ) → row_with d label ≡ f → full_by n f ≡ full_by n (first_match (all_labels d) label)
  unfolding row_of
  full_by_lem n label f e = ap (full_by n) (sym e)

  module _ (text s : List ℕ) where
    pub text_no_label : is_label text ≡ false → none ≡ text_tail (all_labels d) text s
    unfolding text_tail
    text_no_label e = rw (text_tail, e)

    pub text_by : is_label text ≡ true → (empty : Bool) → empty_after s ≡ empty → (f : Option ℕ) → row_with d text ≡ f → short_by empty f ≡ text_tail (all_labels d) text s
    unfolding text_tail row_of
    text_by e empty h f q = rw (text_tail, e) (ap (λ (b : Bool). short_by b f) (sym h) ∙ ap (short_by (empty_after s)) (sym q))

    pub reference_by_lem : (f : Option ℕ) → label_after s ≡ f → reference_by (all_labels d) text s f ≡ reference_of (all_labels d) text s
    reference_by_lem f e = ap (reference_by (all_labels d) text s) (sym e)

    pub full_reference_by : (n : ℕ) → 2 ≤ n → label_after s ≡ Some (n - 1)
        → full_by n (first_match (all_labels d) (take (n - 1 - 1) (drop 1 s))) ≡ reference_of (all_labels d) text s
    full_reference_by n h e =
        let z : n ≡ n - 1 + 1 = omega arith in
        ap (λ (k : ℕ). full_by k (first_match (all_labels d) (take (n - 1 - 1) (drop 1 s)))) z ∙ reference_by_lem (Some (n - 1)) e

    pub tail_by_lem : (at : ℕ) (f : Option InlineParts) → inline_of s ≡ f → tail_by (all_labels d) text s at f ≡ tail_of (all_labels d) text s at
    unfolding tail_of
    tail_by_lem at f e = ap (tail_by (all_labels d) text s at) (sym e)

-- ---- the label that follows, by its length
module _ (s : List ℕ) {b : ℕ} (eb : b ≡ get_or s 0 0) where
  pub label_from : b ≡ 91 → {r : Option ℕ} → r ≡ label_end (drop 1 s) 1 → r ≡ label_after s
  unfolding label_after
  label_from e er = rw (er, label_after, ← eb, eq-eqb b 91 e)

  pub length_from : b ≡ 91 → {r : Option ℕ} → r ≡ label_end (drop 1 s) 1 → length_to r ≡ label_length s
  length_from e er = ap length_to (label_from e er)

  pub no_label_from : (b ≡ 91 → ⊥) → None ≡ label_length s
  unfolding label_after
  no_label_from e = rw (label_after, ← eb, ne_eqb b 91 e)

pub length_inside : (s : List ℕ) (n : ℕ) → label_length s ≡ Some n → (2 ≤ n) × (n ≤ length s) × (label_after s ≡ Some (n - 1))
length_inside s n e = by_place (label_after s) refl e
  where
    by_place : (f : Option ℕ) → label_after s ≡ f → length_to f ≡ Some n → (2 ≤ n) × (n ≤ length s) × (label_after s ≡ Some (n - 1))
    by_place (Some k) q w =
        let z : k + 1 ≡ n = cc in
        let (a, b) = label_inside s k q in
        (omega arith, omega arith, q ∙ ap Some (omega arith))
    by_place None q w = absurd (none-some n w)

pub length_none : (s : List ℕ) → label_length s ≡ None → label_after s ≡ None
length_none s e = by_place (label_after s) refl e
  where
    by_place : (f : Option ℕ) → label_after s ≡ f → length_to f ≡ None → label_after s ≡ None
    by_place (Some k) q w = absurd (none-some (k + 1) (sym w))
    by_place None q w = q
