-- The exported page writer's promise and the page writer's own.
use Prim.Native.Nat.{ℕ}
use mathlib.Core.Path.{◌≡◌, refl, sym, ap, ◌∙◌}
use mathlib.Core.List.{List, [], ◌∷◌}
use lib.ListN.{length, get_or}
use Rattle.texts.specs.Texts.{Texts}
use Rattle.row.specs.Row as definition_table
use Rattle.span.specs.Row as span_table
use Rattle.std.specs.Prelude.{Ok, Err}
use Rattle.rendering.specs.Answers.{Rendering, number_of, value_of, named_of, Answers}
use Rattle.rendering.specs.Promise.{Promise}
use Rattle.rendering.proofs.Answers.{answers_iff, promised}
use Rattle.notice_c.specs.Read.{is_yes}
use Rattle.notice_c.specs.Render.{rendering, numbers_of, RenderPromise}

no_counts : (x : Rendering) → (number_of x ≡ 0 → ⊥) → numbers_of x ≡ value_of x ∷ 0 ∷ 0 ∷ 0 ∷ named_of x ∷ []
no_counts (Ok w) refused = absurd (refused refl)
no_counts (Err r) refused = refl

module _ {release : ℕ} {T : Texts} {t u p : List ℕ} {T' : Texts} {t' u' p' : List ℕ} where
  module _ {n : ℕ} {answer : List ℕ} (kept : RenderPromise release T t u p n T' t' u' p' answer) where
    -- the page writer's own promise: with it demand 1 holds of the answer, and the page writer's claims of all that was lent
    pub as_rendered : Promise (is_yes release) T t u p (rendering release T t u p) T' t' u' p'
    as_rendered = promised refl kept.definitions kept.spans kept.page kept.texts

    -- the numbers in the law's terms
    pub by_law : {x : Rendering} → Answers (is_yes release) T (definition_table.whole_rows t) (span_table.whole_rows u) (length p) x → (n ≡ number_of x) × (answer ≡ numbers_of x)
    by_law {x} a =
        let e : rendering release T t u p ≡ x = (answers_iff (is_yes release) T _ _ _ x).1 a in
        (kept.answered ∙ ap number_of e, kept.numbers ∙ ap numbers_of e)

    -- on a refusal the counts and the length are 0
    pub refusal_zeros : (n ≡ 0 → ⊥) → answer ≡ get_or answer 0 0 ∷ 0 ∷ 0 ∷ 0 ∷ get_or answer 4 0 ∷ []
    refusal_zeros refused = rw kept.numbers (no_counts (rendering release T t u p) (λ e. refused (kept.answered ∙ e)))

    -- no other result keeps the promise
    pub one_answer : {n₂ : ℕ} {T₂ : Texts} {t₂ u₂ p₂ answer₂ : List ℕ} → RenderPromise release T t u p n₂ T₂ t₂ u₂ p₂ answer₂
        → (n ≡ n₂) × (answer ≡ answer₂) × (t' ≡ t₂) × (u' ≡ u₂) × (p' ≡ p₂) × (T' ≡ T₂)
    one_answer q = (
      kept.answered ∙ sym q.answered,
      kept.numbers ∙ sym q.numbers,
      kept.definitions ∙ sym q.definitions,
      kept.spans ∙ sym q.spans,
      kept.page ∙ sym q.page,
      kept.texts ∙ sym q.texts,
    )
