-- The rows that the search in the table gives are the note's, and so is the row whose text ends next.
use Prim.Native.Nat.{ℕ, ◌≤◌, ◌<◌}
use native.Mathlib.Decide.{dec_lt}
use native.Mathlib.Omega.{arith}
use mathlib.Core.Path.{◌≡◌, sym, ap, ◌∙◌, subst}
use mathlib.Core.Option.{none, some, some-injective}
use mathlib.Core.List.{List}
use mathlib.Core.Bool.{true, false}
use lib.ListN.{get_or, get_elem?}
use Rattle.scan.specs.Member.{In}
use Rattle.line.specs.Line.{line_of}
use Rattle.texts.specs.Texts.{Texts}
use Rattle.marking.proofs.Lists.{at_inside}
use Rattle.span.specs.declared.Span.{Span}
use Rattle.span.specs.Row.{numbers_on, numbers, row_at}
use Rattle.span.specs.Reading.{line_in}
use Rattle.note.specs.Reading.{span_rows}
use Rattle.note.proofs.Fits.{rows_fit}
use Rattle.page.specs.Reading.{is_code, text_end, first_row, closes}
use Rattle.cursor.specs.Cursor.{waits, Behind, Finds, closing_place}
use Rattle.cursor.specs.Spanned.{Spanned}
use Rattle.cursor.proofs.Rows.{place_low, place_here, place_from}
use Rattle.cursor.proofs.Cursors.{Next, row_waits, none_before, closes_here}

-- a row of the note's is that of its span in the note, its line too
pub row_of_note : (T : Texts) (u : List ℕ) (k : ℕ) (x : Span) → In (row_at u k) (span_rows T) → numbers_on (line_in u k) x ≡ row_at u k → numbers T.note x ≡ row_at u k
row_of_note T u k x i e =
    let line : line_in u k ≡ line_of T.note x.whole.start = subst (λ (r : List ℕ). get_or r 10 0 ≡ line_of T.note (get_or r 1 0)) (sym e) (rows_fit T (row_at u k) i).line in
    ap (λ (n : ℕ). numbers_on n x) (sym line) ∙ e

module _ {T : Texts} {u : List ℕ} {count : ℕ} (d : Spanned T u count) where
  -- ---- the table's rows are the note's
  row_is : (j : ℕ) (r : List ℕ) → get_elem? (span_rows T) j ≡ some r → (j < count) × (row_at u j ≡ r)
  row_is j r e =
      let h : j < count = omega (arith, at_inside (span_rows T) j r e, d.counted) in
      (h, some-injective (row_at u j) r (sym (d.rows_are j h) ∙ e))

  pub next_found : {i start k : ℕ} → Behind (span_rows T) start i → Finds u count i start k → Next (span_rows T) k i
  next_found {i} {start} {k} b f = record {
    before = record { passed = before };
    there = λ r e. let (h, q) = row_is k r e in subst (λ (x : List ℕ). waits i x ≡ true) q (f.there h);
  }
    where
      before : (j : ℕ) (r : List ℕ) → j < k → get_elem? (span_rows T) j ≡ some r → waits i r ≡ false
      before j r l e = cases (dec_lt j start)
        where
          cases : Dec (j < start) → waits i r ≡ false
          cases (yes z) = b.passed j r z e
          cases (no z) = subst (λ (x : List ℕ). waits i x ≡ false) (row_is j r e).1 (f.passed j (omega arith) l)

  -- ---- the place where the text of the row at the cursor ends, or e
  module _ {i k : ℕ} (n : Next (span_rows T) k i) (e : ℕ) where
    pub closing_from : i ≤ e → i ≤ closing_place u count k e
    closing_from b = place_from u count k e b (λ h. (row_waits T n (row_at u k) (d.rows_are k h)).1)

    pub closing_row : closing_place u count k e ≡ i → i < e
        → (k < count) × (is_code (row_at u k) ≡ false) × (text_end (row_at u k) ≡ i) × (first_row (closes i) (span_rows T) ≡ some (row_at u k))
    closing_row q b =
        let (h, z) = place_here u count k e q b in
        let r = d.rows_are k h in
        (h, (row_waits T n (row_at u k) r).0, z, closes_here T n (row_at u k) r z)

    -- no text ends before it
    pub no_closing : (j : ℕ) → i ≤ j → j < closing_place u count k e → first_row (closes j) (span_rows T) ≡ none
    no_closing j a b = none_before T n j a (λ x f. let (h, q) = row_is k x f in omega (arith, place_low u count k e h, ap text_end q))
