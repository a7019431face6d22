-- The table of places is made of the note's rows.
use Prim.Native.Nat.{ℕ, zero, suc, ◌+◌, ◌-◌, ◌≤◌, ◌<◌}
use native.Mathlib.Nat.{zero-add, add-zero}
use native.Mathlib.Decide.{dec_lt}
use native.Mathlib.Omega.{arith}
use mathlib.Core.Path.{◌≡◌, refl, sym, ap, ap₂, ◌∙◌, subst}
use mathlib.Core.Option.{some, some-injective}
use mathlib.Core.List.{List, [], ◌∷◌}
use lib.ListN.{length, get_elem?}
use Rattle.scan.specs.Member.{In}
use Rattle.texts.specs.Texts.{Texts}
use Rattle.span.specs.Row.{row_at}
use Rattle.inline.specs.Rows.{row_end}
use Rattle.note.specs.Reading.{span_rows}
use Rattle.note.proofs.Fits.{rows_fit}
use Rattle.page.proofs.Extent.{row_some}
use Rattle.page.proofs.Nested.{described_iff, row_ends}
use Rattle.cursor.specs.Spanned.{Spanned}
use Rattle.cursor.specs.Starts.{places, Started, rows_from, Startable}

-- ---- the rows of the table
pub rows_counted : (u : List ℕ) (k n : ℕ) → length (rows_from u k n) ≡ n
rows_counted u k zero = refl
rows_counted u k (suc n) = ap suc (rows_counted u (k + 1) n)

row_from : (u : List ℕ) (k n j : ℕ) → j < n → get_elem? (rows_from u k n) j ≡ some (row_at u (k + j))
row_from u k zero j h = absurd (omega arith)
row_from u k (suc n) zero h = rw (add-zero k) refl
row_from u k (suc n) (suc j) h = let e : k + 1 + j ≡ k + suc j = omega arith in row_from u (k + 1) n j (omega arith) ∙ ap (λ (i : ℕ). some (row_at u i)) e

pub row_there : (u : List ℕ) (n j : ℕ) → j < n → get_elem? (rows_from u 0 n) j ≡ some (row_at u j)
row_there u n j h = row_from u 0 n j h ∙ ap (λ (i : ℕ). some (row_at u i)) (zero-add j)

rows_taken : (u : List ℕ) (k : ℕ) (rows : List (List ℕ)) → ((j : ℕ) → j < length rows → get_elem? rows j ≡ some (row_at u (k + j))) → rows_from u k (length rows) ≡ rows
rows_taken u k [] f = refl
rows_taken u k (r ∷ rows) f =
    let first : r ≡ row_at u k = some-injective r (row_at u k) (f 0 (omega arith) ∙ ap (λ (i : ℕ). some (row_at u i)) (add-zero k)) in
    let more = rows_taken u (k + 1) rows (λ j h. let e : k + suc j ≡ k + 1 + j = omega arith in f (suc j) (omega arith) ∙ ap (λ (i : ℕ). some (row_at u i)) e) in
    ap₂ (λ (x : List ℕ) (l : List (List ℕ)). x ∷ l) (sym first) more

module _ {T : Texts} {u : List ℕ} {count : ℕ} (d : Spanned T u count) where
  -- they are the note's
  rows_are_note's : rows_from u 0 count ≡ span_rows T
  rows_are_note's =
      ap (rows_from u 0) d.counted
      ∙ rows_taken u 0 (span_rows T) (λ j h. d.rows_are j (omega (arith, d.counted)) ∙ ap (λ (i : ℕ). some (row_at u i)) (sym (zero-add j)))

  end_inside : (r : List ℕ) → In r (span_rows T) → row_end r ≤ places
  end_inside r i = omega (arith, (rows_fit T r i).end, d.short)

  few_rows : length (span_rows T) < places
  few_rows = cases (dec_lt 0 count)
    where
      cases : Dec (0 < count) → length (span_rows T) < places
      cases (yes z) =
          let at = d.rows_are (count - 1) (omega arith) in
          omega (arith, d.counted, row_ends T (count - 1) (row_at u (count - 1)) at, end_inside (row_at u (count - 1)) (count - 1, at))
      cases (no z) = omega (arith, d.counted)

  pub startable : Startable (rows_from u 0 count)
  startable =
      subst Startable (sym rows_are_note's)
      (record {
        few = few_rows;
        inside = λ r i. omega (arith, row_some T r i, end_inside r i);
        nested = λ i j r y e f. described_iff T i j r y e f;
      })

  -- so the table that is made of them tells of the note's rows
  pub note_started : {st : List ℕ} → Started (rows_from u 0 count) st → Started (span_rows T) st
  note_started {st} = subst (λ (rows : List (List ℕ)). Started rows st) rows_are_note's
