-- Demand 1: each number is given exactly when its line says, with its value and the text that it names.
use Rattle.std.specs.Prelude.{Err}
use Prim.Native.Nat.{ℕ}
use mathlib.Core.Path.{◌≡◌, refl, sym, ap, subst, ◌∙◌}
use mathlib.Core.Logic.{◌⊎◌, inl, inr}
use mathlib.Core.List.{List}
use mathlib.Core.Bool.{Bool, true, false}
use lib.ListN.{length}
use lib.Dec.{eqb}
use Rattle.refusal.specs.Given.{Given, GivenFor}
use Rattle.text.specs.Utf8.{FirstBad}
use Rattle.texts.specs.Texts.{Texts, note_number, text_of}
use Rattle.texts.specs.Answers.{Due1, Due2}
use Rattle.texts.proofs.Refusals.{bad_place}
use Rattle.row.specs.Row.{Listed}
use Rattle.enquiry.specs.declared.Refusal.TheVariants.{Long, Bad, NotLabel, Undefined}
use Rattle.enquiry.specs.Enquiry.{Enquiry, destination_in, number_of, value_of, named_of}
use Rattle.enquiry.specs.Answers.{Defines, Due8, Due7, Due0, Answers, long, bad, not_label, undefined, destination}
use Rattle.enquiry.specs.Reading.{enquiry_of}
use Rattle.enquiry.proofs.Answers.{answers, determined}

abbrev either : Bool → Type 0 → Type 0 → Type 0
either true A B = A
either false A B = B

module _ (T : Texts) (label : List ℕ) where
  abbrev answer : Enquiry
  answer = enquiry_of T label

  -- ---- a number and the text named tell which line it was
  abbrev Success : Type 0
  Success = (j : Listed) × Due0 T label j

  abbrev Due : ℕ → ℕ → Type 0
  Due n x = either (eqb n 1) (Due1 T x) (either (eqb n 2) (Due2 T x) (either (eqb n 8) (Due8 T label) (either (eqb n 7) (Due7 T label) Success)))

  due : {e : Enquiry} → Answers T label e → Due (number_of e) (named_of e)
  due (long w) = w
  due (bad w b) = w
  due (not_label w) = w
  due (undefined w) = w
  due (destination {j} w) = (j, w)

  told : {n : ℕ} → number_of answer ≡ n → Due n (named_of answer)
  told e = subst (λ (n : ℕ). Due n (named_of answer)) e (due (answers T label))

  -- ---- a line: where it is due, the law gives an answer with this number, such a value and this text
  record Line (number : ℕ) (Value : ℕ → Type 0) (text : ℕ) : Type 0 where
    by : Enquiry
    by_law : Answers T label by
    number_is : number_of by ≡ number
    value_is : Value (value_of by)
    named_is : named_of by ≡ text

  module _ {number text : ℕ} {Value : ℕ → Type 0} (l : Line number Value text) where
    number_given : number_of answer ≡ number
    number_given = ap number_of (determined T label l.by_law) ∙ l.number_is

    value_given : Value (value_of answer)
    value_given = subst (λ (e : Enquiry). Value (value_of e)) (sym (determined T label l.by_law)) l.value_is

    named_given : named_of answer ≡ text
    named_given = ap named_of (determined T label l.by_law) ∙ l.named_is

  given_for : (number text : ℕ) {Value : ℕ → Type 0} → (Due number text → Line number Value text)
      → GivenFor (number_of answer) (named_of answer) (value_of answer) number text (Due number text) Value
  given_for number text line = record {
    exactly = (λ (e, f). subst (Due number) f (told e), λ w. (number_given (line w), named_given (line w)));
    value = λ w. value_given (line w);
  }

  -- "note longer than 32,768 bytes", with "its length"
  pub line_1 : (k : ℕ) → GivenFor (number_of answer) (named_of answer) (value_of answer) 1 k (Due1 T k) (λ v. v ≡ length (text_of T k))
  line_1 k = given_for 1 k (λ w. record { by = Err (Long k (length (text_of T k))); by_law = long w; number_is = refl; value_is = refl; named_is = refl })

  -- "byte 0 or 13, or ill-formed UTF-8", with "where reading from the start first meets no good character"
  pub line_2 : (k : ℕ) → GivenFor (number_of answer) (named_of answer) (value_of answer) 2 k (Due2 T k) (FirstBad (text_of T k))
  line_2 k =
      given_for 2 k (λ w.
      let (p, b) = bad_place T w in
      record { by = Err (Bad k p); by_law = bad w b; number_is = refl; value_is = b; named_is = refl })

  -- "the bytes given, set between `[` and `]`, are not exactly one label, or hold byte 0 or 13 or ill-formed UTF-8", with 0
  by_8 : Due8 T label → Line 8 (λ v. v ≡ 0) note_number
  by_8 w = record { by = Err NotLabel; by_law = not_label w; number_is = refl; value_is = refl; named_is = refl }

  pub line_8 : Given (number_of answer) (value_of answer) 8 (Due8 T label) (λ v. v ≡ 0)
  line_8 = record { exactly = (λ e. told e, λ w. number_given (by_8 w)); value = λ w. value_given (by_8 w) }

  -- "no definition has an equal label", with 0
  by_7 : Due7 T label → Line 7 (λ v. v ≡ 0) note_number
  by_7 w = record { by = Err Undefined; by_law = undefined w; number_is = refl; value_is = refl; named_is = refl }

  pub line_7 : Given (number_of answer) (value_of answer) 7 (Due7 T label) (λ v. v ≡ 0)
  line_7 = record { exactly = (λ e. told e, λ w. number_given (by_7 w)); value = λ w. value_given (by_7 w) }

  -- "an answer about neither says 0"
  pub names_the_note : (number_of answer ≡ 8) ⊎ (number_of answer ≡ 7) → named_of answer ≡ note_number
  names_the_note (inl e) = named_given (by_8 (told e))
  names_the_note (inr e) = named_given (by_7 (told e))

  by_0 : {j : Listed} → Due0 T label j → Line 0 (λ v. (j : Listed) × Defines T label j × (v ≡ j.definition.destination.start)) j.text
  by_0 {j} w = record {
    by = destination_in j.text j.definition.destination.start j.definition.destination.end;
    by_law = destination w;
    number_is = refl;
    value_is = (j, w.2, refl);
    named_is = refl;
  }

  pub success : Given (number_of answer) (value_of answer) 0 Success (λ v. (j : Listed) × Defines T label j × (v ≡ j.definition.destination.start))
  success = record { exactly = (λ e. told e, λ (j, w). number_given (by_0 w)); value = λ (j, w). value_given (by_0 w) }

  -- "whichever of the two texts defines the label, named in its answer"
  pub names_its_text : (j : Listed) → Due0 T label j → named_of answer ≡ j.text
  names_its_text j w = named_given (by_0 w)
