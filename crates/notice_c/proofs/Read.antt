-- The exported reader's promise and the reader's own.
use Prim.Native.Nat.{ℕ}
use mathlib.Core.Path.{◌≡◌, refl, sym, ap, ◌∙◌}
use mathlib.Core.List.{List, [], ◌∷◌}
use lib.ListN.{get_or}
use Rattle.texts.specs.Texts.{Texts}
use Rattle.row.specs.Row as definition_table
use Rattle.span.specs.Row as span_table
use Rattle.std.specs.Prelude.{Ok, Err}
use Rattle.notice.specs.Answers.{Reading, number_of, value_of, named_of, Answers}
use Rattle.notice.specs.Promise.{Promise}
use Rattle.notice.proofs.Answers.{answers_iff}
use Rattle.notice_c.specs.Read.{is_yes, reading, numbers_of, ReadPromise}

no_counts : (x : Reading) → (number_of x ≡ 0 → ⊥) → numbers_of x ≡ value_of x ∷ 0 ∷ 0 ∷ named_of x ∷ []
no_counts (Ok c) refused = absurd (refused refl)
no_counts (Err r) refused = refl

module _ {release : ℕ} {T : Texts} {t u : List ℕ} {T' : Texts} {t' u' : List ℕ} where
  module _ {n : ℕ} {answer : List ℕ} (p : ReadPromise release T t u n T' t' u' answer) where
    -- the reader's own promise: with it demand 1 holds of the answer, and demands 2 and 3 of the tables
    pub as_read : Promise (is_yes release) T t u (reading release T t u) T' t' u'
    as_read = record {
      answer = refl;
      number = refl;
      value = refl;
      named = refl;
      definitions_counted = refl;
      spans_counted = refl;
      definitions = p.definitions;
      spans = p.spans;
      texts = p.texts;
    }

    -- the numbers in the law's terms
    pub by_law : {x : Reading} → Answers (is_yes release) T (definition_table.whole_rows t) (span_table.whole_rows u) x
        → (n ≡ number_of x) × (answer ≡ numbers_of x)
    by_law {x} a =
        let e : reading release T t u ≡ x = (answers_iff (is_yes release) T _ _ x).1 a in
        (p.answered ∙ ap number_of e, p.numbers ∙ ap numbers_of e)

    -- on a refusal the counts are 0
    pub refusal_zeros : (n ≡ 0 → ⊥) → answer ≡ get_or answer 0 0 ∷ 0 ∷ 0 ∷ get_or answer 3 0 ∷ []
    refusal_zeros refused = rw p.numbers (no_counts (reading release T t u) (λ e. refused (p.answered ∙ e)))

    -- no other result keeps the promise
    pub one_answer : {n₂ : ℕ} {T₂ : Texts} {t₂ u₂ answer₂ : List ℕ} → ReadPromise release T t u n₂ T₂ t₂ u₂ answer₂
        → (n ≡ n₂) × (answer ≡ answer₂) × (t' ≡ t₂) × (u' ≡ u₂) × (T' ≡ T₂)
    one_answer q =
        (p.answered ∙ sym q.answered, p.numbers ∙ sym q.numbers, p.definitions ∙ sym q.definitions, p.spans ∙ sym q.spans, p.texts ∙ sym q.texts)
