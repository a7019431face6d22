-- Lines 1 and 2 of the table hold of whatever keeps the promise of `check`.
use Prim.Native.Nat.{ℕ, ◌≤◌}
use native.Mathlib.Omega.{arith}
use mathlib.Core.Path.{◌≡◌, refl, sym, ap, subst, ◌∙◌}
use mathlib.Core.List.{List}
use Rattle.std.specs.Prelude.{Err, Ok}
use lib.ListN.{length}
use Rattle.text.specs.declared.Fault.TheVariants.{Long, Bad}
use Rattle.text.specs.Utf8.{FirstBad, note_limit, TooLong, Unclean, GoodNote}
use Rattle.text.specs.Reading.{Checked, check_of}
use Rattle.text.specs.Promise.{number_of, value_of, Promise}
use Rattle.text.specs.Claims.{NoteChecked}
use Rattle.text.proofs.Refusals.{check_long, check_bad, refused_2, good_note}

-- an answer that is the reading keeps the promise
pub promised : {s : List ℕ} {r : Checked} → r ≡ check_of s → Promise s r
promised e = record { answer = e; number = ap number_of e; value = ap value_of e }

module _ (s : List ℕ) where
  -- ---- what a number tells
  number_1 : (r : Checked) → r ≡ check_of s → number_of r ≡ 1 → TooLong s
  number_1 (Ok done) a e = let no : ⊥ = omega arith in absurd no
  number_1 (Err (Long n)) a e = ((check_long s n).0 (sym a)).0
  number_1 (Err (Bad k)) a e = let no : ⊥ = omega arith in absurd no

  number_2 : (r : Checked) → r ≡ check_of s → number_of r ≡ 2 → (length s ≤ note_limit) × Unclean s
  number_2 (Ok done) a e = let no : ⊥ = omega arith in absurd no
  number_2 (Err (Long n)) a e = let no : ⊥ = omega arith in absurd no
  number_2 (Err (Bad k)) a e = (refused_2 s).0 (k, sym a)

  number_0 : (r : Checked) → r ≡ check_of s → number_of r ≡ 0 → GoodNote s
  number_0 (Ok done) a e = (good_note s).0 (sym a)
  number_0 (Err (Long n)) a e = let no : ⊥ = omega arith in absurd no
  number_0 (Err (Bad k)) a e = let no : ⊥ = omega arith in absurd no

  -- ---- the theorem
  module _ (r : Checked) (p : Promise s r) where
    long : TooLong s → r ≡ Err (Long (length s))
    long h = p.answer ∙ (check_long s (length s)).1 (h, refl)

    bad : (length s ≤ note_limit) × Unclean s → (k : ℕ) × (r ≡ Err (Bad k))
    bad w = let v = (refused_2 s).1 w in (v.0, p.answer ∙ v.1)

    good : GoodNote s → r ≡ Ok tt
    good g = p.answer ∙ (good_note s).1 g

    bad_place : (w : (length s ≤ note_limit) × Unclean s) → FirstBad s (value_of r)
    bad_place w =
        let v = bad w in
        subst (FirstBad s) (sym (ap value_of v.1)) ((check_bad s v.0).0 (sym p.answer ∙ v.1)).1

    pub note_checked : NoteChecked s r
    note_checked =
        record {
          line_1 = record { exactly = (number_1 r p.answer, λ h. ap number_of (long h)); value = λ h. ap value_of (long h) };
          line_2 = record { exactly = (number_2 r p.answer, λ w. ap number_of (bad w).1); value = bad_place };
          success = record { exactly = (number_0 r p.answer, λ g. ap number_of (good g)); value = λ g. ap value_of (good g) };
        }
