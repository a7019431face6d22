-- What follows from the page writer's promise: demand 1 of its answer, what the tables and the page buffer hold, that it reads as the reader does, and that no other result keeps it.
use Prim.Native.Nat.{ℕ, ◌≤◌}
use native.Mathlib.Omega.{arith}
use mathlib.Core.Path.{◌≡◌, refl, sym, ap, ◌∙◌, subst}
use mathlib.Core.Logic.{◌⊎◌, inl, inr}
use mathlib.Core.List.{List}
use mathlib.Core.Bool.{Bool}
use borrow.Author.Tests.{eqb-true, ne_eqb}
use lib.ListN.{length, take, drop, length-append, length-drop}
use lib.Dec.{eqb}
use lib.Seq.{take_at}
use Rattle.scan.proofs.Test.{by}
use Rattle.texts.specs.Texts.{Texts}
use Rattle.row.specs.Row as definition_table
use Rattle.span.specs.Row as span_table
use Rattle.page.specs.ByRows.{ByRows}
use Rattle.page.specs.Reading.{page_of}
use Rattle.page.proofs.Page.{page_iff}
use Rattle.page.proofs.ByRows.{page_by_rows}
use Rattle.notice.specs.Answers.{Reading}
use Rattle.notice.specs.Answers as reader
use Rattle.notice.specs.Reading.{reading_of, definition_table_of, span_table_of}
use Rattle.notice.specs.Promise.{Promise as ReaderPromise}
use Rattle.notice.specs.Claims.{DefinitionRows, SpanRows}
use Rattle.notice.proofs.Promise as reader_promise
use Rattle.rendering.specs.Answers.{Rendering, number_of, value_of, named_of, definition_count, span_count, page_length}
use Rattle.rendering.specs.Reading.{after_reading, page_buffer_of}
use Rattle.rendering.specs.Promise.{Promise}
use Rattle.rendering.specs.Claims.{Demand1, PageHolds, Buffers, Same, ReadsAlike}
use Rattle.rendering.proofs.Alike.{same_number, same_value, same_named, same_counts, same_definitions, same_spans, zero_or_six, was_refused, was_read}
use Rattle.rendering.proofs.Answers.{by_reader, page_size}
use Rattle.rendering.proofs.Demand1 as answers

module _ {release : Bool} {T : Texts} {t u p : List ℕ} {r : Rendering} {T' : Texts} {t' u' p' : List ℕ} (m : Promise release T t u p r T' t' u' p') where
  abbrev definition_rows : ℕ
  definition_rows = definition_table.whole_rows t

  abbrev rows_of_spans : ℕ
  rows_of_spans = span_table.whole_rows u

  pub demand_1 : Demand1 release T definition_rows rows_of_spans (length p) r
  demand_1 = subst (Demand1 release T definition_rows rows_of_spans (length p)) (sym m.answer) (answers.demand_1 release T definition_rows rows_of_spans (length p))

  -- ---- beside the reader
  abbrev need : ℕ
  need = length (page_of T)

  abbrev x : Reading
  x = reading_of release T definition_rows rows_of_spans

  by_answer : {y : Reading} → y ≡ x → r ≡ after_reading need (length p) y
  by_answer e = m.answer ∙ by_reader release T definition_rows rows_of_spans (length p) (sym e)

  -- the reader's answer, and the same tables, keep the reader's promise
  reader_kept : ReaderPromise release T t u x T' t' u'
  reader_kept =
      record {
        answer = refl;
        number = refl;
        value = refl;
        named = refl;
        definitions_counted = refl;
        spans_counted = refl;
        definitions = m.definitions ∙ ap (λ (y : Rendering). definition_table_of T (number_of y) t) (by_answer refl) ∙ same_definitions need (length p) T t x;
        spans = m.spans ∙ ap (λ (y : Rendering). span_table_of T (number_of y) u) (by_answer refl) ∙ same_spans need (length p) T u x;
        texts = m.texts;
      }

  pub reads_alike : {y : Reading} {T₂ : Texts} {t₂ u₂ : List ℕ} → ReaderPromise release T t u y T₂ t₂ u₂ → ReadsAlike y t₂ u₂ r t' u'
  reads_alike {y} q =
      let e : r ≡ after_reading need (length p) y = by_answer q.answer in
      let same = reader_promise.one_answer reader_kept q in
      record {
        number = λ h. ap number_of e ∙ same_number need (length p) y h;
        value = λ h. ap value_of e ∙ same_value need (length p) y h;
        named = ap named_of e ∙ same_named need (length p) y;
        read = λ z. subst (λ (z : Rendering). (number_of z ≡ 0) ⊎ (number_of z ≡ 6)) (sym e) (zero_or_six need (length p) y z);
        definitions_counted = λ z. ap definition_count e ∙ (same_counts need (length p) y (sym (ap number_of e) ∙ z)).0;
        spans_counted = λ z. ap span_count e ∙ (same_counts need (length p) y (sym (ap number_of e) ∙ z)).1;
        definitions = same.definitions;
        spans = same.spans;
      }

  -- ---- the page buffer
  untouched : 1 ≤ number_of r → p' ≡ p
  untouched h = m.page ∙ rw (ne_eqb (number_of r) 0 (λ e. omega (arith, e))) refl

  page_there : number_of r ≡ 0 → PageHolds T p p'
  page_there z =
      let w = (demand_1.success.exactly.0 z).1 in
      record {
        page = page_of T;
        page_is = (page_iff T (page_of T)).0 refl;
        fits = omega (arith, page_size T w.counted, w.enough);
        holds = m.page ∙ rw z refl;
      }

  same_size : length p' ≡ length p
  same_size =
      by (eqb (number_of r) 0) (λ e. stays (page_there (eqb-true (number_of r) 0 e)))
      (λ e. let q : p' ≡ p = m.page ∙ rw e refl in ap length q)
    where
      stays : PageHolds T p p' → length p' ≡ length p
      stays h = ap length h.holds ∙ rw (length-append, length-drop) (omega (arith, h.fits))

  by_rows : number_of r ≡ 0 → (d : DefinitionRows T t t') (v : SpanRows T u u') → ByRows T d.list v.rows d.paragraphs (take (page_length r) p')
  by_rows z d v =
      let h = page_there z in
      let size : length h.page ≡ page_length r = sym (ap length ((page_iff T h.page).1 h.page_is)) ∙ page_size T (demand_1.page_measured z) in
      let held : h.page ≡ take (page_length r) p' = sym (ap (take (page_length r)) h.holds ∙ take_at h.page (drop (length h.page) p) (page_length r) size) in
      subst (ByRows T d.list v.rows d.paragraphs) held ((page_by_rows T d.list d.paragraphs v.rows d.joins v.each_once h.page).1 h.page_is)

  -- ---- all of it
  number_is : number_of r ≡ number_of (after_reading need (length p) x)
  number_is = ap number_of (by_answer refl)

  refused : 1 ≤ number_of r → (number_of r ≡ 6 → ⊥) → reader.number_of x ≡ number_of r
  refused lo other = was_refused need (length p) x (omega (arith, number_is)) (λ e. other (number_is ∙ e)) ∙ sym number_is

  -- after 4, 5 and 9
  only_definitions : 4 ≤ number_of r → (number_of r ≡ 6 → ⊥) → DefinitionRows T t t' × (u' ≡ u) × (p' ≡ p)
  only_definitions lo other =
      let e = refused (omega arith) other in
      let (a, c) = (reader_promise.tables_hold reader_kept).definitions_only (omega (arith, e)) in
      (a, c, untouched (omega arith))

  pub buffers_hold : Buffers T t u p r t' u' p'
  buffers_hold =
      let b = reader_promise.tables_hold reader_kept in
      record {
        unchanged = λ lo hi. let e = refused lo (λ z. omega (arith, z)) in let (a, c) = b.unchanged (omega (arith, e)) (omega (arith, e)) in (a, c, untouched lo);
        definitions_only = λ lo hi. only_definitions lo (λ z. omega (arith, z));
        conflicting = λ e. only_definitions (omega (arith, e)) (λ z. omega (arith, e, z));
        tables_only = λ z. let (a, c) = b.success (was_read need (length p) x (inr (sym number_is ∙ z))) in (a, c, untouched (omega (arith, z)));
        success = λ z. let (a, c) = b.success (was_read need (length p) x (inl (sym number_is ∙ z))) in (a, c, page_there z);
        by_rows = by_rows;
        definitions_size = b.definitions_size;
        spans_size = b.spans_size;
        page_size = same_size;
      }

  -- "for each input the promise equates what the call gives .. with a definition"
  pub one_answer : {r₂ : Rendering} {T₂ : Texts} {t₂ u₂ p₂ : List ℕ} → Promise release T t u p r₂ T₂ t₂ u₂ p₂ → Same r t' u' p' r₂ t₂ u₂ p₂
  one_answer q =
      let e : r ≡ _ = m.answer ∙ sym q.answer in
      record {
        answer = e;
        number = m.number ∙ sym q.number;
        value = m.value ∙ sym q.value;
        named = m.named ∙ sym q.named;
        definitions_counted = m.definitions_counted ∙ sym q.definitions_counted;
        spans_counted = m.spans_counted ∙ sym q.spans_counted;
        page_measured = m.page_measured ∙ sym q.page_measured;
        definitions = m.definitions ∙ ap (λ (y : Rendering). definition_table_of T (number_of y) t) e ∙ sym q.definitions;
        spans = m.spans ∙ ap (λ (y : Rendering). span_table_of T (number_of y) u) e ∙ sym q.spans;
        page = m.page ∙ ap (λ (y : Rendering). page_buffer_of T y p) e ∙ sym q.page;
      }
