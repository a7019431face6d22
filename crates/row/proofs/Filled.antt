-- Rows stored one after the other fill the table, and are read back from it.
use Rattle.std.specs.Prelude.{None, Some}
use Prim.Native.Nat.{ℕ, zero, suc, ◌+◌, ◌*◌, ◌≤◌, ◌<◌}
use native.Mathlib.Nat.{add-zero}
use native.Mathlib.Numerals.{add-one}
use native.Mathlib.Omega.{arith}
use mathlib.Core.Path.{◌≡◌, refl, ap, ap₂, subst⁻¹, ◌∙◌}
use mathlib.Core.List.{List, [], ◌∷◌, ◌++◌, map}
use mathlib.Core.Logic.{◌↔◌}
use lib.ListN.{length, get_or, take, drop}
use lib.Seq.{get_or-append-add}
use Rattle.rows.specs.Rows
use Rattle.rows.proofs.Filled
use Rattle.texts.specs.Texts.{Texts, text_of}
use Rattle.rows.proofs.Storing as storing
use Rattle.row.specs.declared.Definition.{Definition}
use Rattle.row.specs.Row.{range, Listed, listed, width, numbers, rows, whole_rows, filled, stored_all}
use Rattle.row.specs.First.{labels_of, past_end, FirstEqual, NoneEqual}
use Rattle.row.specs.Reading.{range_at, listed_at, listed_from, first_match, row_of, Within, Fit}
use Rattle.row.proofs.First.{first_equal, none_equal}

-- ---- rows, and the table that they fill
module _ (T : Texts) where
  wide : (d : Listed) → length (numbers T d) ≡ width
  wide d = refl

  pub length_rows : (ds : List Listed) → length (rows T ds) ≡ length ds * width
  length_rows = Filled.length_rows width (numbers T) wide

  pub filled_empty : (ds : List Listed) → filled T ds [] ≡ []
  filled_empty = Filled.filled_empty width (numbers T)

  pub filled_none : (t : List ℕ) → filled T [] t ≡ t
  filled_none = Filled.filled_none width (numbers T)

  pub filled_still : (ds : List Listed) (t : List ℕ) → length ds ≡ 0 → t ≡ filled T ds t
  filled_still = Filled.filled_still width (numbers T)

  pub length_filled : (ds : List Listed) (t : List ℕ) → length (filled T ds t) ≡ length t
  length_filled = Filled.length_filled width (numbers T) wide

  -- where all of them fit
  pub filled_whole : (ds : List Listed) (t : List ℕ) → length ds ≤ whole_rows t → filled T ds t ≡ rows T ds ++ drop (length ds * width) t
  filled_whole = Filled.filled_whole width (numbers T) wide

  -- the definitions of the text k, after others that fill the table
  pub stored_after : (k : ℕ) (passed : List Listed) (ds : List Definition) (t₀ : List ℕ) {t : List ℕ} {n : ℕ} → t ≡ filled T passed t₀ → n ≡ length passed
      → stored_all k (text_of T k) t n ds ≡ filled T (passed ++ map (listed k) ds) t₀
  stored_after k passed ds t₀ {t} {n} et en = storing.stored_mapped width (numbers T) (listed k) ds t n ∙ Filled.store_all width (numbers T) wide t₀ passed (map (listed k) ds) et en

-- ---- the entries of a table, one by one
-- the entry of row k + i
pub entry_at : (t : List ℕ) (k n i : ℕ) → i < n → get_or (listed_from t k n) i past_end ≡ listed_at t (k + i)
unfolding listed_from
entry_at t k zero i h = absurd (omega arith)
entry_at t k (suc n) zero h = rw (add-zero k) refl
entry_at t k (suc n) (suc i) h = let z : k + 1 + i ≡ k + suc i = omega arith in entry_at t (k + 1) n i (omega arith) ∙ ap (λ (j : ℕ). listed_at t j) z

-- those of its first k rows
pub entries_taken : (t : List ℕ) (from n k : ℕ) → k ≤ n → listed_from t from k ≡ take k (listed_from t from n)
unfolding listed_from
entries_taken t from n zero h = refl
entries_taken t from zero (suc k) h = absurd (omega arith)
entries_taken t from (suc n) (suc k) h = ap (λ (l : List Listed). listed_at t from ∷ l) (entries_taken t (from + 1) n k (omega arith))

-- ---- reading back: past a row, each row is the next of what is left
module _ (T : Texts) (d : Listed) (t : List ℕ) where
  number_past : (n m : ℕ) → n ≡ width + m → get_or (numbers T d ++ t) n 0 ≡ get_or t m 0
  number_past n m e = ap (λ (i : ℕ). get_or (numbers T d ++ t) i 0) e ∙ get_or-append-add (numbers T d) t m 0

  part_past : (n m : ℕ) → n ≡ width + m → range_at (numbers T d ++ t) n ≡ range_at t m
  part_past n m e = ap₂ range (number_past n m e) (number_past (n + 1) (m + 1) (omega arith))

  entry_past : (k : ℕ) → listed_at (numbers T d ++ t) (k + 1) ≡ listed_at t k
  entry_past k =
      let n = (k + 1) * width in
      let m = k * width in
      let x = number_past n m (omega arith) in
      let l = part_past (n + 1) (m + 1) (omega arith) in
      let e = part_past (n + 3) (m + 3) (omega arith) in
      let f = part_past (n + 5) (m + 5) (omega arith) in
      cc

  entries_past : (n k : ℕ) → listed_from (numbers T d ++ t) (k + 1) n ≡ listed_from t k n
  unfolding listed_from
  entries_past zero k = refl
  entries_past (suc n) k = ap₂ (λ (x : Listed) (l : List Listed). x ∷ l) (entry_past k) (entries_past n (k + 1))

module _ (T : Texts) where
  rows_back : (ds : List Listed) (t : List ℕ) → listed_from (rows T ds ++ t) 0 (length ds) ≡ ds
  unfolding listed_from Rows.rows
  rows_back [] t = refl
  rows_back (d ∷ ds) t = ap (λ (l : List Listed). d ∷ l) (entries_past T d (rows T ds ++ t) (length ds) 0 ∙ rows_back ds t)

  row_back : (ds : List Listed) (t : List ℕ) (k : ℕ) (o : Listed) → k < length ds → listed_at (rows T ds ++ t) k ≡ get_or ds k o
  unfolding Rows.rows
  row_back [] t k o h = absurd (omega arith)
  row_back (d ∷ ds) t zero o h = refl
  row_back (d ∷ ds) t (suc k) o h = rw (← add-one k) (entry_past T d (rows T ds ++ t) k) ∙ row_back ds t k o (omega arith)

module _ (T : Texts) (ds : List Listed) (t : List ℕ) (fits : length ds ≤ whole_rows t) where
  pub entries_back : listed_from (filled T ds t) 0 (length ds) ≡ ds
  entries_back = rw (filled_whole T ds t fits) (rows_back T ds _)

  -- o stands for what lies past the end
  pub entry_back : (k : ℕ) (o : Listed) → k < length ds → listed_at (filled T ds t) k ≡ get_or ds k o
  entry_back k o h = rw (filled_whole T ds t fits) (row_back T ds _ k o h)

  pub row_of_filled : (label : List ℕ) → row_of T (filled T ds t) label (length ds) ≡ first_match (labels_of T ds) label
  unfolding row_of
  row_of_filled label = rw entries_back

  pub row_of_first : (label : List ℕ) (k : ℕ) → (row_of T (filled T ds t) label (length ds) ≡ Some k) ↔ FirstEqual (labels_of T ds) label k
  row_of_first label k = rw (row_of_filled label) (first_equal (labels_of T ds) label k)

  pub row_of_none : (label : List ℕ) → (row_of T (filled T ds t) label (length ds) ≡ None) ↔ NoneEqual (labels_of T ds) label
  row_of_none label = rw (row_of_filled label) (none_equal (labels_of T ds) label)

  -- the label lies within its text
  abbrev pub LabelWithin : Listed → Type 0
  LabelWithin j = Within (text_of T j.text) j.definition.label

  pub filled_fit : (o : Listed) → ((k : ℕ) → k < length ds → LabelWithin (get_or ds k o)) → Fit T (filled T ds t) (length ds)
  filled_fit o f = record {
    room = rw (length_filled T ds t) fits;
    labels = λ k h. subst⁻¹ LabelWithin (entry_back k o h) (f k h);
  }
