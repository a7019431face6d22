-- A table with a whole row for each entry of the joined list can be looked up, and finds the first definition with an equal label.
use Rattle.std.specs.Prelude.{None, Some}
use Prim.Native.Nat.{ℕ, ◌+◌, ◌≤◌, ◌<◌, ◌^◌}
use native.Mathlib.Omega.{arith}
use mathlib.Core.Path.{◌≡◌, refl, sym, ◌∙◌}
use mathlib.Core.List.{List, [], ◌∷◌, ◌++◌}
use mathlib.Core.Logic.{◌↔◌}
use lib.ListN.{length, length-map}
use Rattle.text.specs.Utf8.{note_limit}
use Rattle.texts.specs.Texts.{Texts, note_number, sheet_number}
use Rattle.row.specs.declared.Definition.{Definition}
use Rattle.row.specs.Row.{listed, whole_rows, filled, stored_all}
use Rattle.row.specs.First.{labels_of, past_end, FirstEqual, NoneEqual}
use Rattle.row.specs.Reading.{first_match, row_of, Within, Fit}
use Rattle.row.proofs.Filled.{filled_none, stored_after, filled_fit, row_of_filled, row_of_first, row_of_none}
use Rattle.definition.specs.Reading.{definitions}
use Rattle.walk.specs.Promise.{Remembers}
use Rattle.walk.proofs.Places.{Lies, definitions_lie}
use Rattle.joined.specs.Joined.{listed_in}
use Rattle.joined.specs.Reading.{joined}
use Rattle.joined.proofs.Places.{entry_at, length_joined}
use Rattle.joined.proofs.Few.{few_definitions}

label_within : {s : List ℕ} {d : Definition} → Lies s d → Within s d.label
label_within l = let p = l.places in record { ordered = p.label; inside = omega (arith, p.apart, p.destination, p.ends, p.inside) }

-- the note's definitions stored from row 0 on, and the sheet's after them, fill the table lent
pub both_stored : (T : Texts) (t : List ℕ) {t₁ t₂ : List ℕ} {m : ℕ} → m ≡ 0 + length (definitions T.note) → t₁ ≡ stored_all note_number T.note t 0 (definitions T.note)
    → t₂ ≡ stored_all sheet_number T.sheet t₁ m (definitions T.sheet) → t₂ ≡ filled T (joined T) t
unfolding joined
both_stored T t {t₁} {m = m} n e f =
    let ds = definitions T.note in
    let next : m ≡ length (listed_in note_number ds) = omega (arith, n, length-map ds (listed note_number)) in
    let first : t₁ ≡ filled T (listed_in note_number ds) t = e ∙ stored_after T note_number [] ds t (sym (filled_none T t)) refl in
    f ∙ stored_after T sheet_number (listed_in note_number ds) (definitions T.sheet) t first next

-- the note's definitions were counted, and then the sheet's from there on
pub both_counted : (T : Texts) {m n : ℕ} → m ≡ 0 + length (definitions T.note) → n ≡ m + length (definitions T.sheet) → n ≡ length (joined T)
both_counted T e f = omega (arith, e, f, length_joined T)

pub few_own : (s : List ℕ) {m : ℕ} → length s ≤ note_limit → m ≡ 0 + length (definitions s) → m < 2 ^ 32
few_own s h e = omega (arith, e, few_definitions s)

-- of the list no number was lent on
pub list_kept : {s list : List ℕ} {n : ℕ} (none : List ℕ) → length none ≡ 0 → Remembers s list n → Remembers s (none ++ list) n
list_kept [] e r = r
list_kept (x ∷ none) e r = let no : ⊥ = omega arith in absurd no

-- t is the table lent; after filling it is t', and k definitions were counted
module _ (T : Texts) (t : List ℕ) (enough : length (joined T) ≤ whole_rows t) {t' : List ℕ} (stored : t' ≡ filled T (joined T) t) {k : ℕ} (counted : k ≡ length (joined T)) where
  pub table_fit : Fit T t' k
  table_fit =
      rw (stored, counted)
      (filled_fit T (joined T) t enough past_end (entry_at T (λ s d. Within s d.label) (λ s d m. label_within (definitions_lie s d m))))

  module _ (label : List ℕ) where
    pub table_row : row_of T t' label k ≡ first_match (labels_of T (joined T)) label
    table_row = rw (stored, counted) (row_of_filled T (joined T) t enough label)

    -- row i is found exactly where entry i is the first of the joined list with an equal label
    pub table_first : (i : ℕ) → (row_of T t' label k ≡ Some i) ↔ FirstEqual (labels_of T (joined T)) label i
    table_first i = rw (stored, counted) (row_of_first T (joined T) t enough label i)

    pub table_none : (row_of T t' label k ≡ None) ↔ NoneEqual (labels_of T (joined T)) label
    table_none = rw (stored, counted) (row_of_none T (joined T) t enough label)
