-- Lines 1 and 2 of the table hold, for each text, of whatever keeps the promise of `check`.
use Rattle.std.specs.Prelude.{Err, Ok}
use Prim.Native.Nat.{ℕ}
use native.Mathlib.Omega.{arith}
use mathlib.Core.Path.{◌≡◌, refl, sym, ap, subst, ◌∙◌}
use lib.ListN.{length}
use Rattle.text.specs.Utf8.{FirstBad}
use Rattle.texts.specs.declared.Fault.TheVariants.{Long, Bad}
use Rattle.texts.specs.Texts.{Texts, text_of}
use Rattle.texts.specs.Answers.{Due1, Due2, GoodTexts}
use Rattle.texts.specs.Reading.{Checked, checked}
use Rattle.texts.specs.Reading as both
use Rattle.texts.specs.Promise.{number_of, value_of, named_of, Promise}
use Rattle.texts.specs.Claims.{TextsChecked}
use Rattle.texts.proofs.Refusals.{check_long, check_bad, bad_place, good_texts}

-- an answer that is the reading keeps the promise
pub promised : {T : Texts} {r : Checked} → r ≡ both.check_of T → Promise T r
promised e = record { answer = e; number = ap number_of e; value = ap value_of e; named = ap named_of e }

module _ (T : Texts) where
  -- ---- what a number and a text tell
  number_1 : (r : Checked) → both.check_of T ≡ r → (k : ℕ) → (number_of r ≡ 1) × (named_of r ≡ k) → Due1 T k
  number_1 (Ok done) a k (e, f) = absurd (omega arith)
  number_1 (Err (Long j n)) a k (e, f) = subst (Due1 T) f ((check_long T j n).0 a).0
  number_1 (Err (Bad j p)) a k (e, f) = absurd (omega arith)

  number_2 : (r : Checked) → both.check_of T ≡ r → (k : ℕ) → (number_of r ≡ 2) × (named_of r ≡ k) → Due2 T k
  number_2 (Ok done) a k (e, f) = absurd (omega arith)
  number_2 (Err (Long j n)) a k (e, f) = absurd (omega arith)
  number_2 (Err (Bad j p)) a k (e, f) = subst (Due2 T) f ((check_bad T j p).0 a).0

  number_0 : (r : Checked) → both.check_of T ≡ r → number_of r ≡ 0 → GoodTexts T
  number_0 (Ok done) a e = (good_texts T).0 a
  number_0 (Err (Long j n)) a e = absurd (omega arith)
  number_0 (Err (Bad j p)) a e = absurd (omega arith)

  -- ---- the theorem
  module _ (r : Checked) (p : Promise T r) where
    long : {k : ℕ} → Due1 T k → r ≡ Err (Long k (length (text_of T k)))
    long {k} d = p.answer ∙ (check_long T k (length (text_of T k))).1 (d, refl)

    bad : {k : ℕ} → Due2 T k → (place : ℕ) × ((r ≡ Err (Bad k place)) × FirstBad (text_of T k) place)
    bad {k} d = let (q, f) = bad_place T d in (q, (p.answer ∙ (check_bad T k q).1 (d, f), f))

    good : GoodTexts T → r ≡ Ok tt
    good g = p.answer ∙ (good_texts T).1 g

    pub texts_checked : TextsChecked T r
    texts_checked =
        record {
          line_1 = λ k. record {
            exactly = (number_1 r (sym p.answer) k, λ d. (ap number_of (long d), ap named_of (long d)));
            value = λ d. ap value_of (long d);
          };
          line_2 = λ k. record {
            exactly = (number_2 r (sym p.answer) k, λ d. (ap number_of (bad d).1.0, ap named_of (bad d).1.0));
            value = λ d. subst (FirstBad (text_of T k)) (sym (ap value_of (bad d).1.0)) (bad d).1.1;
          };
          success = record { exactly = (number_0 r (sym p.answer), λ g. ap number_of (good g)); value = λ g. ap value_of (good g) };
          neither = λ g. ap named_of (good g);
        }
