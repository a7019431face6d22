-- The answer that is read is the one that the law gives.
use Prim.Native.Nat.{ℕ}
use mathlib.Core.Path.{◌≡◌, refl, sym, ap, ◌∙◌, subst}
use mathlib.Core.Logic.{◌↔◌}
use mathlib.Core.List.{List}
use mathlib.Core.Bool.{Bool}
use borrow.Author.Tests.{lt-ltb, le-ltb, ltb-true, ltb-false}
use lib.ListN.{length}
use lib.Dec.{ltb}
use Rattle.scan.proofs.Test.{by}
use Rattle.texts.specs.Texts.{Texts}
use Rattle.page.specs.Reading.{page_of}
use Rattle.page.proofs.Page.{page_iff}
use Rattle.notice.specs.Answers.{Reading}
use Rattle.notice.specs.Answers as reader
use Rattle.notice.specs.Reading.{reading_of, definition_table_of, span_table_of}
use Rattle.notice.proofs.Answers as reader_answers
use Rattle.rendering.specs.Answers.{Rendering, number_of, value_of, named_of, definition_count, span_count, page_length, PageMeasured, Answers, long, bad, few_definitions, conflicting, deep, few_spans, short_page, rendered}
use Rattle.rendering.specs.Reading.{after_reading, rendering_of, page_buffer_of}
use Rattle.rendering.specs.Promise.{answer_to, Promise}

-- ---- the page that is read is the one by the law
module _ (T : Texts) where
  pub page_measured : PageMeasured T (length (page_of T))
  page_measured = record { page = page_of T; page_is = (page_iff T (page_of T)).0 refl; measured = refl }

  pub page_size : {size : ℕ} → PageMeasured T size → length (page_of T) ≡ size
  page_size w = ap length ((page_iff T w.page).1 w.page_is) ∙ w.measured

module _ (release : Bool) (T : Texts) (d n room : ℕ) where
  abbrev Law : Rendering → Type 0
  Law = Answers release T d n room

  abbrev need : ℕ
  need = length (page_of T)

  pub by_reader : {x : Reading} → reading_of release T d n ≡ x → rendering_of release T d n room ≡ after_reading need room x
  unfolding rendering_of
  by_reader e = ap (after_reading need room) e

  -- ---- the law's answer is read
  reads : {r : Rendering} → Law r → rendering_of release T d n room ≡ r
  reads (long w) = by_reader (reader_answers.reads release T d n (reader.long w))
  reads (bad w f) = by_reader (reader_answers.reads release T d n (reader.bad w f))
  reads (few_definitions w) = by_reader (reader_answers.reads release T d n (reader.few_definitions w))
  reads (conflicting w c) = by_reader (reader_answers.reads release T d n (reader.conflicting w c))
  reads (deep w f) = by_reader (reader_answers.reads release T d n (reader.deep w f))
  reads (few_spans w) = by_reader (reader_answers.reads release T d n (reader.few_spans w))
  reads (short_page (w, v)) =
      let e = page_size T v.counted in
      by_reader (reader_answers.reads release T d n (reader.read w)) ∙ rw (e, lt-ltb room v.needed v.fewer) refl
  reads (rendered (w, v)) =
      let e = page_size T v.counted in
      by_reader (reader_answers.reads release T d n (reader.read w)) ∙ rw (e, le-ltb room v.needed v.enough) refl

  -- ---- what is read is the law's answer
  here : {r : Rendering} → Law r → Law (rendering_of release T d n room)
  here a = subst Law (sym (reads a)) a

  from_reader : {x : Reading} → reader.Answers release T d n x → Law (rendering_of release T d n room)
  from_reader (reader.long w) = here (long w)
  from_reader (reader.bad w f) = here (bad w f)
  from_reader (reader.few_definitions w) = here (few_definitions w)
  from_reader (reader.conflicting w c) = here (conflicting w c)
  from_reader (reader.deep w f) = here (deep w f)
  from_reader (reader.few_spans w) = here (few_spans w)
  from_reader (reader.read w) =
      by (ltb room need) (λ t. here (short_page (w, record { needed = need; counted = page_measured T; fewer = ltb-true room need t })))
      (λ f. here (rendered (w, record { needed = need; counted = page_measured T; enough = ltb-false room need f })))

  pub the_answer : Law (rendering_of release T d n room)
  the_answer = from_reader (reader_answers.the_answer release T d n)

  pub answers_iff : (r : Rendering) → (rendering_of release T d n room ≡ r) ↔ Law r
  answers_iff r = ((λ e. subst Law e the_answer), reads)

-- the numbers of the answer are the answer's
pub promised : {release : Bool} {T : Texts} {t u p : List ℕ} {r : Rendering} {T' : Texts} {t' u' p' : List ℕ} → r ≡ answer_to release T t u p → t' ≡ definition_table_of T (number_of r) t → u' ≡ span_table_of T (number_of r) u
    → p' ≡ page_buffer_of T r p → T' ≡ T → Promise release T t u p r T' t' u' p'
promised e d n b k = record {
  answer = e;
  number = ap number_of e;
  value = ap value_of e;
  named = ap named_of e;
  definitions_counted = ap definition_count e;
  spans_counted = ap span_count e;
  page_measured = ap page_length e;
  definitions = d;
  spans = n;
  page = b;
  texts = k;
}
