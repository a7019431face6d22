-- Demand 1: each number is given exactly when its line says, with its text and its value.
use Prim.Native.Nat.{ℕ, zero, suc}
use native.Mathlib.Omega.{arith}
use mathlib.Core.Path.{◌≡◌, refl, sym, ap, ◌∙◌, subst}
use mathlib.Core.Bool.{Bool}
use lib.ListN.{length}
use Rattle.refusal.specs.Given.{Given, GivenFor}
use Rattle.text.specs.Utf8.{FirstBad}
use Rattle.texts.specs.Texts.{Texts, text_of}
use Rattle.texts.specs.Answers.{Due1, Due2}
use Rattle.texts.proofs.Refusals.{bad_place}
use Rattle.note.specs.Note.{FirstDeep}
use Rattle.std.specs.Prelude.{Ok, Err}
use Rattle.notice.specs.declared.Refusal.TheVariants.{Long, Bad, FewDefinitions, Conflicting, Deep, FewSpans}
use Rattle.notice.specs.Answers.{Reading, counts, number_of, value_of, named_of, definition_count, span_count, DefinitionsCounted, SpansCounted, ConflictRow, Due0, Due3, Due4, Due5, Due9, Answers, long, bad, few_definitions, conflicting, deep, few_spans, read}
use Rattle.notice.specs.Reading.{reading_of}
use Rattle.notice.specs.Claims.{Demand1}
use Rattle.notice.proofs.Answers.{first_conflict_lem, first_too_deep, the_answer, answers_iff}

module _ (release : Bool) (T : Texts) (d n : ℕ) where
  abbrev answer : Reading
  answer = reading_of release T d n

  abbrev Law : Reading → Type 0
  Law = Answers release T d n

  -- ---- a number, and the text that it names, tell which line it was
  abbrev Due : ℕ → ℕ → Type 0
  Due zero x = Due0 release T d n
  Due (suc zero) x = Due1 T x
  Due (suc (suc zero)) x = Due2 T x
  Due (suc (suc (suc zero))) x = Due3 release T d n
  Due (suc (suc (suc (suc zero)))) x = Due4 release T d n
  Due (suc (suc (suc (suc (suc zero))))) x = Due5 release T d n
  Due (suc (suc (suc (suc (suc (suc zero)))))) x = ⊥
  Due (suc (suc (suc (suc (suc (suc (suc zero))))))) x = ⊥
  Due (suc (suc (suc (suc (suc (suc (suc (suc zero)))))))) x = ⊥
  Due (suc (suc (suc (suc (suc (suc (suc (suc (suc zero))))))))) x = Due9 release T d n
  Due (suc (suc (suc (suc (suc (suc (suc (suc (suc (suc k)))))))))) x = ⊥

  due : {r : Reading} → Law r → Due (number_of r) (named_of r)
  due (long w) = w
  due (bad w f) = w
  due (few_definitions w) = w
  due (conflicting w c) = w
  due (deep w f) = w
  due (few_spans w) = w
  due (read w) = w

  told : Due (number_of answer) (named_of answer)
  told = due (the_answer release T d n)

  -- ---- a line: where it is due, the law gives an answer with this number, text and such a value
  pub record Line (number x : ℕ) (Value : ℕ → Type 0) : Type 0 where
    pub answer : Reading
    pub by_law : Law answer
    pub number_is : number_of answer ≡ number
    pub named_is : named_of answer ≡ x
    pub value_is : Value (value_of answer)

  module _ (number x : ℕ) {Value : ℕ → Type 0} (line : Due number x → Line number x Value) where
    same : (w : Due number x) → answer ≡ (line w).answer
    same w = (answers_iff release T d n (line w).answer).1 (line w).by_law

    value : (w : Due number x) → Value (value_of answer)
    value w = subst (λ (r : Reading). Value (value_of r)) (sym (same w)) (line w).value_is

    given_for : GivenFor (number_of answer) (named_of answer) (value_of answer) number x (Due number x) Value
    given_for =
        record {
          exactly = (λ (e, f). subst (Due number) f (subst (λ (k : ℕ). Due k (named_of answer)) e told), λ w. (ap number_of (same w) ∙ (line w).number_is, ap named_of (same w) ∙ (line w).named_is));
          value = value;
        }

  -- a line that names no text
  given : (number : ℕ) {Value : ℕ → Type 0} → (Due number (named_of answer) → Due number 0) → (Due number 0 → Line number 0 Value)
      → Given (number_of answer) (value_of answer) number (Due number 0) Value
  given number {Value} to line =
      record {
        exactly = (λ e. to (subst (λ (k : ℕ). Due k (named_of answer)) e told), λ w. ap number_of (same number 0 line w) ∙ (line w).number_is);
        value = value number 0 line;
      }

  line_1 : (x : ℕ) → Due1 T x → Line 1 x (λ v. v ≡ length (text_of T x))
  line_1 x w = record { answer = Err (Long x (length (text_of T x))); by_law = long w; number_is = refl; named_is = refl; value_is = refl }

  line_2 : (x : ℕ) → Due2 T x → Line 2 x (FirstBad (text_of T x))
  line_2 x w = let (k, f) = bad_place T w in record { answer = Err (Bad x k); by_law = bad w f; number_is = refl; named_is = refl; value_is = f }

  line_3 : Due3 release T d n → Line 3 0 (DefinitionsCounted T)
  line_3 w = record { answer = Err (FewDefinitions w.1.needed); by_law = few_definitions w; number_is = refl; named_is = refl; value_is = w.1.counted }

  line_9 : Due9 release T d n → Line 9 0 (ConflictRow T)
  line_9 w =
      let (row, c) = first_conflict_lem T w.2 in
      record { answer = Err (Conflicting row); by_law = conflicting w c; number_is = refl; named_is = refl; value_is = c }

  line_4 : Due4 release T d n → Line 4 0 (FirstDeep T)
  line_4 w =
      let (place, f) = first_too_deep T w.3 in
      record { answer = Err (Deep place); by_law = deep w f; number_is = refl; named_is = refl; value_is = f }

  line_5 : Due5 release T d n → Line 5 0 (SpansCounted T)
  line_5 w = record { answer = Err (FewSpans w.4.needed); by_law = few_spans w; number_is = refl; named_is = refl; value_is = w.4.counted }

  success : Due0 release T d n → Line 0 0 (λ v. v ≡ 0)
  success w = record { answer = Ok (counts w.1.needed w.4.needed); by_law = read w; number_is = refl; named_is = refl; value_is = refl }

  -- ---- the counts
  counted : {x : Reading} → Law x → number_of x ≡ 0 → DefinitionsCounted T (definition_count x) × SpansCounted T (span_count x)
  counted (long w) e = absurd (omega arith)
  counted (bad w f) e = absurd (omega arith)
  counted (few_definitions w) e = absurd (omega arith)
  counted (conflicting w c) e = absurd (omega arith)
  counted (deep w f) e = absurd (omega arith)
  counted (few_spans w) e = absurd (omega arith)
  counted (read w) e = (w.1.counted, w.4.counted)

  neither : {r : Reading} → Law r → (number_of r ≡ 1 → ⊥) → (number_of r ≡ 2 → ⊥) → named_of r ≡ 0
  neither (long w) a b = absurd (a refl)
  neither (bad w f) a b = absurd (b refl)
  neither (few_definitions w) a b = refl
  neither (conflicting w c) a b = refl
  neither (deep w f) a b = refl
  neither (few_spans w) a b = refl
  neither (read w) a b = refl

  pub demand_1 : Demand1 release T d n (reading_of release T d n)
  demand_1 =
      record {
        line_1 = λ x. given_for 1 x (line_1 x);
        line_2 = λ x. given_for 2 x (line_2 x);
        line_3 = given 3 (λ w. w) line_3;
        line_4 = given 4 (λ w. w) line_4;
        line_5 = given 5 (λ w. w) line_5;
        line_9 = given 9 (λ w. w) line_9;
        success = given 0 (λ w. w) success;
        definitions_counted = λ e. (counted (the_answer release T d n) e).0;
        spans_counted = λ e. (counted (the_answer release T d n) e).1;
        names_neither = neither (the_answer release T d n);
        answers = answers_iff release T d n;
      }
