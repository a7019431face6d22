-- The text that a definition number names, by the row of that definition in the table.
use Prim.Native.Nat.{ℕ, suc, ◌-◌, ◌≤◌}
use native.Mathlib.Omega.{arith}
use mathlib.Core.Path.{◌≡◌, sym, ap, ◌∙◌}
use mathlib.Core.List.{List}
use lib.ListN.{length}
use Rattle.texts.specs.Texts.{Texts, text_of}
use Rattle.row.specs.Row.{Listed}
use Rattle.row.specs.First.{named_text}
use Rattle.row.specs.Reading.{text_at}
use Rattle.row.proofs.Turn.{other_text}
use Rattle.joined.specs.Reading.{joined, Listing}
use Rattle.joined.proofs.Listing.{row_entry}

-- the number n of a definition
module _ {T : Texts} {t : List ℕ} (l : Listing T t) {n : ℕ} (h : n ≤ length (joined T)) (some : n ≡ 0 → ⊥) where
  named : named_text T (joined T) n ≡ text_of T (text_at t (n - 1))
  named =
      let z : n ≡ suc (n - 1) = omega arith in
      ap (named_text T (joined T)) z ∙ ap (λ (j : Listed). text_of T j.text) (row_entry l (omega arith))

  -- the row names text x
  module _ {x : ℕ} (is : x ≡ text_at t (n - 1)) where
    pub by_note : x ≡ 0 → T.note ≡ named_text T (joined T) n
    by_note e = ap (text_of T) (sym e ∙ is) ∙ sym named

    pub by_sheet : (x ≡ 0 → ⊥) → T.sheet ≡ named_text T (joined T) n
    by_sheet e = other_text T x e ∙ ap (text_of T) is ∙ sym named
