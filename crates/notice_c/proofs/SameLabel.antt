-- The exported comparison's promise, and what follows from it.
use Prim.Native.Nat.{ℕ}
use native.Mathlib.Omega.{arith}
use mir.Val.{bool_byte}
use mathlib.Core.Path.{◌≡◌, refl, sym, ap, ◌∙◌}
use mathlib.Core.Logic.{◌↔◌}
use mathlib.Core.List.{List}
use mathlib.Core.Bool.{Bool, true, false, true≢false}
use Rattle.matching.specs.Reading.{matches}
use Rattle.matching.proofs.Equality.{matches_equal}
use Rattle.texts.specs.Texts.{Texts}
use Rattle.enquiry.specs.Enquiry as enquiry
use Rattle.enquiry.specs.Answers.{GoodLabel}
use Rattle.enquiry.specs.Reading.{enquiry_of}
use Rattle.enquiry.proofs.Alike.{one_enquiry}
use Rattle.notice_c.specs.Resolve.{numbers_of, ResolvePromise}
use Rattle.notice_c.specs.SameLabel.{number_of, SameLabelPromise}

one_is : (v : Bool) → (number_of v ≡ 1) ↔ (v ≡ true)
one_is true = (λ e. refl, λ e. refl)
one_is false = (λ e. absurd (omega arith), λ e. absurd (true≢false (sym e)))

zero_is : (v : Bool) → (number_of v ≡ 0) ↔ (v ≡ true → ⊥)
zero_is true = (λ e. absurd (omega arith), λ n. absurd (n refl))
zero_is false = (λ e q. true≢false (sym q), λ n. refl)

-- ---- v is what the comparison answers
module _ (a b : List ℕ) {v : Bool} (tells : v ≡ matches a b) where
  kept : {n : ℕ} → n ≡ number_of v → SameLabelPromise a b n a b
  kept e =
      let m = matches_equal a b in
      let q = e ∙ ap number_of tells in
      record {
        answered = q;
        equal = rw q (λ o. m.0 ((one_is (matches a b)).0 o), λ s. (one_is (matches a b)).1 (m.1 s));
        unequal = rw q (λ z s. (zero_is (matches a b)).0 z (m.1 s), λ n. (zero_is (matches a b)).1 (λ t. n (m.0 t)));
        a_kept = refl;
        b_kept = refl;
      }

-- the comparison's answer as a number
as_number : (v : Bool) → bool_byte v ≡ number_of v
as_number true = refl
as_number false = refl

pub told : (a b : List ℕ) {v : Bool} → v ≡ matches a b → {n : ℕ} → n ≡ bool_byte v → SameLabelPromise a b n a b
told a b {v} tells e = kept a b tells (e ∙ as_number v)

module _ {a b a' b' : List ℕ} {n : ℕ} (p : SameLabelPromise a b n a' b') where
  -- no other result keeps the promise
  pub one_answer : {n₂ : ℕ} {a₂ b₂ : List ℕ} → SameLabelPromise a b n₂ a₂ b₂ → (n ≡ n₂) × (a' ≡ a₂) × (b' ≡ b₂)
  one_answer q = (p.answered ∙ sym q.answered, p.a_kept ∙ sym q.a_kept, p.b_kept ∙ sym q.b_kept)

  -- labels that are called equal, and that the enquiry does not refuse, get one answer from it
  pub opens_alike : n ≡ 1 → GoodLabel a → GoodLabel b → {T T₁ T₂ : Texts} {k k₂ : ℕ} {a₁ answer₁ b₂ answer₂ : List ℕ}
      → ResolvePromise T a k T₁ a₁ answer₁ → ResolvePromise T b k₂ T₂ b₂ answer₂ → (k ≡ k₂) × (answer₁ ≡ answer₂)
  opens_alike e g h {T} r s =
      let q : enquiry_of T a ≡ enquiry_of T b = one_enquiry T a b (p.equal.0 e) g h in
      (r.answered ∙ ap enquiry.number_of q ∙ sym s.answered, r.numbers ∙ ap numbers_of q ∙ sym s.numbers)
