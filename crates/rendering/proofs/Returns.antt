-- What the page writer has done at each return, and that it keeps the promise.
use Prim.Native.Nat.{ℕ, ◌≤◌}
use native.Mathlib.Omega.{arith}
use mathlib.Core.Path.{◌≡◌, refl, sym, ap, ◌∙◌, subst}
use mathlib.Core.List.{List}
use mathlib.Core.Bool.{Bool, false}
use borrow.Author.Tests.{ne_eqb}
use lib.ListN.{length}
use lib.Dec.{eqb}
use Rattle.texts.specs.Texts.{Texts}
use Rattle.texts.specs.Answers.{GoodTexts}
use Rattle.row.specs.Row as definition_table
use Rattle.row.proofs.Filled.{length_filled, entries_back}
use Rattle.joined.specs.Reading.{joined, Listing}
use Rattle.span.specs.Row as span_table
use Rattle.note.specs.Reading.{span_rows}
use Rattle.note.proofs.EachRow.{each_row_iff}
use Rattle.page.specs.Reading.{page_of}
use Rattle.cursor.specs.Spanned.{Spanned}
use Rattle.notice.specs.Answers.{Reading}
use Rattle.std.specs.Prelude.{Ok, Err, IsErrAnd}
use Rattle.notice.specs.declared.Counts.{Counts}
use Rattle.notice.specs.declared.Refusal.{Refusal}
use Rattle.notice.specs.Answers as reader
use Rattle.notice.specs.Reading.{definition_table_of, span_table_of}
use Rattle.notice.specs.Promise.{Promise as ReaderPromise}
use Rattle.notice.specs.Claims.{SpanRows}
use Rattle.notice.proofs.Answers.{definitions_number, spans_number}
use Rattle.notice.proofs.Promise as reader_promise
use Rattle.notice.proofs.Standing.{rows_stand}
use Rattle.rendering.specs.declared.Refusal.TheVariants.{Unread}
use Rattle.rendering.specs.Answers.{Rendering, number_of}
use Rattle.rendering.specs.Reading.{with_page, after_reading, page_buffer_of}
use Rattle.rendering.specs.Promise.{Promise}
use Rattle.rendering.proofs.Alike.{refusal_low, same_definitions, same_spans}
use Rattle.rendering.proofs.Answers.{by_reader, promised}

-- a table that holds the note's span rows is one to write the page from
pub filled_spanned : (T : Texts) (u : List ℕ) {u' : List ℕ} → GoodTexts T → SpanRows T u u' → length u' ≡ length u → Spanned T u' (length (span_rows T))
filled_spanned T u {u'} g v e =
    let n : span_rows T ≡ v.rows = (each_row_iff T v.rows).1 v.each_once in
    record {
      short = g.note.short;
      sheet_short = g.sheet.short;
      counted = refl;
      room = rw (e, n) v.fit;
      rows_are = rows_stand T u v;
    }

-- the reader has answered x
module _ (p : List ℕ) {release : Bool} {T : Texts} {t u : List ℕ} {T' : Texts} {t' u' : List ℕ} {x : Reading} (m : ReaderPromise release T t u x T' t' u') where
  abbrev need : ℕ
  need = length (page_of T)

  kept : {r : Rendering} {p' : List ℕ} → after_reading need (length p) x ≡ r → p' ≡ page_buffer_of T r p → Promise release T t u p r T' t' u' p'
  kept e q =
      promised (sym (by_reader release T (definition_table.whole_rows t) (span_table.whole_rows u) (length p) (sym m.answer) ∙ e))
      (m.definitions ∙ sym (same_definitions need (length p) T t x) ∙ ap (λ (y : Rendering). definition_table_of T (number_of y) t) e)
      (m.spans ∙ sym (same_spans need (length p) T u x) ∙ ap (λ (y : Rendering). span_table_of T (number_of y) u) e)
      q
      m.texts

  -- it has refused, and the refusal is handed on as y
  pub refused : {r : Refusal} → x ≡ Err r → (y : Rendering) → IsErrAnd y (λ d. d ≡ Unread r) → Promise release T t u p y T' t' u' p
  refused e (Ok w) h = absurd h
  refused {r} e (Err d) h =
      let other : eqb (reader.refusal_number r) 0 ≡ false = ne_eqb (reader.refusal_number r) 0 (λ z. omega (arith, refusal_low r)) in
      rw h (kept (ap (after_reading need (length p)) e) (sym (rw other refl)))

  -- ---- it has read the note
  module _ {c : Counts} (e : x ≡ Ok c) where
    pub spanned : Spanned T u' c.spans
    spanned =
        let q = reader_promise.demand_1 m in
        let z : reader.number_of x ≡ 0 = ap reader.number_of e in
        let tables = reader_promise.tables_hold m in
        let count : length (span_rows T) ≡ c.spans = spans_number T (q.spans_counted z) ∙ ap reader.span_count e in
        subst (Spanned T u') count (filled_spanned T u (q.success.exactly.0 z).0 (tables.success z).1 tables.spans_size)

    -- the definition table holds the joined list
    pub listing : Listing T t'
    listing =
        let z : reader.number_of x ≡ 0 = ap reader.number_of e in
        let w = ((reader_promise.demand_1 m).success.exactly.0 z).1 in
        let enough : length (joined T) ≤ definition_table.whole_rows t = omega (arith, definitions_number T w.counted, w.enough) in
        let table : t' ≡ definition_table.filled T (joined T) t = m.definitions ∙ rw z refl in
        record {
          room = rw (table, length_filled T (joined T) t) enough;
          rows_are = rw table (entries_back T (joined T) t enough);
        }

    -- and the page is measured, and written if it fits
    pub page_done : {r : Rendering} {p' : List ℕ} → r ≡ with_page need (length p) c → p' ≡ page_buffer_of T r p → Promise release T t u p r T' t' u' p'
    page_done f q = kept (ap (after_reading need (length p)) e ∙ sym f) q
