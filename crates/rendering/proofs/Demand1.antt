-- Demand 1: each number is given exactly when its line says, with its value. Of all but 6 by what the reader says.
use Prim.Native.Nat.{ℕ, ◌≤◌}
use native.Mathlib.Omega.{arith}
use mathlib.Core.Path.{◌≡◌, refl, sym, ap, ◌∙◌, subst}
use mathlib.Core.Bool.{Bool}
use lib.ListN.{length}
use Rattle.refusal.specs.Given.{Given, GivenFor}
use Rattle.texts.specs.Texts.{Texts}
use Rattle.page.specs.Reading.{page_of}
use Rattle.notice.specs.Answers.{Reading}
use Rattle.notice.specs.Answers.{DefinitionsCounted, SpansCounted}
use Rattle.notice.specs.Answers as reader
use Rattle.notice.specs.Reading.{reading_of}
use Rattle.notice.proofs.Demand1 as reader_answers
use Rattle.rendering.specs.Answers.{Rendering, number_of, value_of, named_of, definition_count, span_count, page_length, PageMeasured, Due0, Due6, Answers, long, bad, few_definitions, conflicting, deep, few_spans, short_page, rendered}
use Rattle.rendering.specs.Reading.{after_reading, rendering_of}
use Rattle.rendering.specs.Claims.{Demand1}
use Rattle.rendering.proofs.Alike.{same_number, same_value, same_named, was_refused}
use Rattle.rendering.proofs.Answers.{by_reader, the_answer, answers_iff}

module _ (release : Bool) (T : Texts) (d n room : ℕ) where
  abbrev r : Rendering
  r = rendering_of release T d n room

  -- ---- the reader's refusals
  abbrev x : Reading
  x = reading_of release T d n

  abbrev need : ℕ
  need = length (page_of T)

  beside : r ≡ after_reading need room x
  beside = by_reader release T d n room refl

  from_reader : (k : ℕ) {When : Type 0} {Value : ℕ → Type 0} → 1 ≤ k → (k ≡ 6 → ⊥) → Given (reader.number_of x) (reader.value_of x) k When Value → Given (number_of r) (value_of r) k When Value
  from_reader k {When} {Value} lo other g =
      let q = ap number_of beside in
      let refused : When → 1 ≤ reader.number_of x = λ w. omega (arith, g.exactly.1 w) in
      record {
        exactly = (
          (λ e. g.exactly.0 (was_refused need room x (omega (arith, q, e)) (λ z. other (sym e ∙ q ∙ z)) ∙ sym q ∙ e)),
          (λ w. q ∙ same_number need room x (refused w) ∙ g.exactly.1 w),
        );
        value = λ w. subst Value (sym (ap value_of beside ∙ same_value need room x (refused w))) (g.value w);
      }

  -- the text is the reader's
  named_is : named_of r ≡ reader.named_of x
  named_is = ap named_of beside ∙ same_named need room x

  from_reader_for : (k y : ℕ) {When : Type 0} {Value : ℕ → Type 0} → 1 ≤ k → (k ≡ 6 → ⊥) → GivenFor (reader.number_of x) (reader.named_of x) (reader.value_of x) k y When Value
      → GivenFor (number_of r) (named_of r) (value_of r) k y When Value
  from_reader_for k y {When} {Value} lo other g =
      let q = ap number_of beside in
      let refused : When → 1 ≤ reader.number_of x = λ w. omega (arith, (g.exactly.1 w).0) in
      record {
        exactly = (
          (λ (e, f). g.exactly.0 (was_refused need room x (omega (arith, q, e)) (λ z. other (sym e ∙ q ∙ z)) ∙ sym q ∙ e, sym named_is ∙ f)),
          (λ w. (q ∙ same_number need room x (refused w) ∙ (g.exactly.1 w).0, named_is ∙ (g.exactly.1 w).1)),
        );
        value = λ w. subst Value (sym (ap value_of beside ∙ same_value need room x (refused w))) (g.value w);
      }

  -- ---- 6 and success
  due_6 : {x : Rendering} → Answers release T d n room x → number_of x ≡ 6 → Due6 release T d n room
  due_6 (long w) e = absurd (omega arith)
  due_6 (bad w f) e = absurd (omega arith)
  due_6 (few_definitions w) e = absurd (omega arith)
  due_6 (conflicting w c) e = absurd (omega arith)
  due_6 (deep w f) e = absurd (omega arith)
  due_6 (few_spans w) e = absurd (omega arith)
  due_6 (short_page w) e = w
  due_6 (rendered w) e = absurd (omega arith)

  line_6 : Given (number_of r) (value_of r) 6 (Due6 release T d n room) (PageMeasured T)
  line_6 =
      record {
        exactly = (due_6 (the_answer release T d n room), λ w. ap number_of ((answers_iff release T d n room _).1 (short_page w)));
        value = λ w. subst (λ (x : Rendering). PageMeasured T (value_of x)) (sym ((answers_iff release T d n room _).1 (short_page w))) w.1.counted;
      }

  -- the law's conditions and the counts, where the answer is success
  record Success (x : Rendering) : Type 0 where
    due : Due0 release T d n room
    definitions : DefinitionsCounted T (definition_count x)
    spans : SpansCounted T (span_count x)
    page : PageMeasured T (page_length x)

  counts : {x : Rendering} → Answers release T d n room x → number_of x ≡ 0 → Success x
  counts (long w) e = absurd (omega arith)
  counts (bad w f) e = absurd (omega arith)
  counts (few_definitions w) e = absurd (omega arith)
  counts (conflicting w c) e = absurd (omega arith)
  counts (deep w f) e = absurd (omega arith)
  counts (few_spans w) e = absurd (omega arith)
  counts (short_page w) e = absurd (omega arith)
  counts (rendered w) e = record { due = w; definitions = w.0.1.counted; spans = w.0.4.counted; page = w.1.counted }

  success : Given (number_of r) (value_of r) 0 (Due0 release T d n room) (λ v. v ≡ 0)
  success =
      record {
        exactly = ((λ e. (counts (the_answer release T d n room) e).due), λ w. ap number_of ((answers_iff release T d n room _).1 (rendered w)));
        value = λ w. ap value_of ((answers_iff release T d n room _).1 (rendered w));
      }

  neither : {x : Rendering} → Answers release T d n room x → (number_of x ≡ 1 → ⊥) → (number_of x ≡ 2 → ⊥) → named_of x ≡ 0
  neither (long w) a b = absurd (a refl)
  neither (bad w f) a b = absurd (b refl)
  neither (few_definitions w) a b = refl
  neither (conflicting w c) a b = refl
  neither (deep w f) a b = refl
  neither (few_spans w) a b = refl
  neither (short_page w) a b = refl
  neither (rendered w) a b = refl

  pub demand_1 : Demand1 release T d n room r
  demand_1 =
      let q = reader_answers.demand_1 release T d n in
      record {
        line_1 = λ y. from_reader_for 1 y (omega arith) (λ e. omega (arith, e)) (q.line_1 y);
        line_2 = λ y. from_reader_for 2 y (omega arith) (λ e. omega (arith, e)) (q.line_2 y);
        line_3 = from_reader 3 (omega arith) (λ e. omega (arith, e)) q.line_3;
        line_4 = from_reader 4 (omega arith) (λ e. omega (arith, e)) q.line_4;
        line_5 = from_reader 5 (omega arith) (λ e. omega (arith, e)) q.line_5;
        line_6 = line_6;
        line_9 = from_reader 9 (omega arith) (λ e. omega (arith, e)) q.line_9;
        success = success;
        definitions_counted = λ e. (counts (the_answer release T d n room) e).definitions;
        spans_counted = λ e. (counts (the_answer release T d n room) e).spans;
        page_measured = λ e. (counts (the_answer release T d n room) e).page;
        names_neither = neither (the_answer release T d n room);
        answers = answers_iff release T d n room;
      }
