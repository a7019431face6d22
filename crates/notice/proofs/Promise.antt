-- What follows from the reader's promise: demand 1 of its answer, what the tables hold, and that no other result keeps it.
use Prim.Native.Nat.{ℕ}
use mathlib.Core.Path.{◌≡◌, sym, ap, ◌∙◌, subst}
use mathlib.Core.List.{List}
use mathlib.Core.Bool.{Bool}
use Rattle.texts.specs.Texts.{Texts}
use Rattle.row.specs.Row as definition_table
use Rattle.span.specs.Row as span_table
use Rattle.notice.specs.Answers.{Reading, number_of, value_of, named_of, definition_count, span_count, Answers}
use Rattle.notice.specs.Reading.{definition_table_of, span_table_of}
use Rattle.notice.specs.Promise.{Promise}
use Rattle.notice.specs.Claims.{Demand1, Tables, Same}
use Rattle.notice.proofs.Answers.{the_answer}
use Rattle.notice.proofs.Demand1 as answers
use Rattle.notice.proofs.Tables.{tables_after}

module _ {release : Bool} {T : Texts} {t u : List ℕ} {r : Reading} {T' : Texts} {t' u' : List ℕ} (p : Promise release T t u r T' t' u') where
  pub demand_1 : Demand1 release T (definition_table.whole_rows t) (span_table.whole_rows u) r
  demand_1 = subst (Demand1 release T (definition_table.whole_rows t) (span_table.whole_rows u)) (sym p.answer) (answers.demand_1 release T (definition_table.whole_rows t) (span_table.whole_rows u))

  -- demands 2 and 3, and what is left unchanged
  pub tables_hold : Tables T t u r t' u'
  tables_hold =
      let d = definition_table.whole_rows t in
      let n = span_table.whole_rows u in
      tables_after T release t u r (subst (Answers release T d n) (sym p.answer) (the_answer release T d n)) p.definitions p.spans

  -- "for each input the promise equates what the call gives .. with a definition"
  pub one_answer : {r₂ : Reading} {T₂ : Texts} {t₂ u₂ : List ℕ} → Promise release T t u r₂ T₂ t₂ u₂ → Same r t' u' r₂ t₂ u₂
  one_answer q =
      let e : r ≡ _ = p.answer ∙ sym q.answer in
      record {
        answer = e;
        number = ap number_of e;
        value = ap value_of e;
        named = ap named_of e;
        definitions_counted = ap definition_count e;
        spans_counted = ap span_count e;
        definitions = p.definitions ∙ ap (λ (x : Reading). definition_table_of T (number_of x) t) e ∙ sym q.definitions;
        spans = p.spans ∙ ap (λ (x : Reading). span_table_of T (number_of x) u) e ∙ sym q.spans;
      }
