-- `check_of` against the law: refusals 1 and 2 exactly when they are due, with what is returned.
use Rattle.std.specs.Prelude.{None, Option, Some, Err, Ok}
use Prim.Native.Nat.{ℕ, ◌≤◌, ◌<◌}
use native.Mathlib.Omega.{arith}
use mathlib.Core.Path.{◌≡◌, refl, sym, ap, ◌∙◌}
use mathlib.Core.Logic.{◌↔◌, ⊎_elim}
use mathlib.Core.List.{List}
use borrow.Author.Tests.{lt-ltb, ltb-true, ltb-false}
use lib.Dec.{ltb}
use lib.ListN.{length}
use Rattle.scan.proofs.Test.{by}
use Rattle.text.specs.declared.Fault.TheVariants.{Long, Bad}
use Rattle.text.specs.Utf8.{note_limit, Clean, GoodText, FirstBad, GoodNote}
use Rattle.text.specs.Reading.{first_bad, checked_by, check_of}
use Rattle.text.proofs.Steps.{checks}
use Rattle.text.proofs.FirstBad.{good_or_bad, first_bad_at, first_bad_nothing}
use Rattle.text.proofs.Clean.{good_text}

-- ---- what `checked_by` tells
not_long : {P : Type 0} (f : Option ℕ) {n : ℕ} → checked_by f ≡ Err (Long n) → P
not_long (Some k) e = let z : ◌≡◌ {A = ℕ} 0 1 = cc in let no : ⊥ = omega arith in absurd no
not_long None e = let z : ◌≡◌ {A = ℕ} 0 1 = cc in let no : ⊥ = omega arith in absurd no

was_at : (f : Option ℕ) {k : ℕ} → checked_by f ≡ Err (Bad k) → f ≡ Some k
was_at (Some j) e = cc
was_at None e = cc

was_nothing : (f : Option ℕ) → checked_by f ≡ Ok tt → f ≡ None
was_nothing (Some j) e = cc
was_nothing None e = refl

-- ---- too long, or as `first_bad` says
long : (s : List ℕ) → note_limit < length s → check_of s ≡ Err (Long (length s))
unfolding check_of
long s h = rw (lt-ltb note_limit (length s) h, check_of)

cases : {P : Type 0} (s : List ℕ) → (note_limit < length s → P) → (length s ≤ note_limit → P) → P
cases s p q = by (ltb note_limit (length s)) (λ e. p (ltb-true note_limit (length s) e)) (λ e. q (ltb-false note_limit (length s) e))

not_both : (s : List ℕ) {k : ℕ} → GoodText s → FirstBad s k → ⊥
not_both s {k} g w =
    let e = (first_bad_nothing s).1 g in let f = (first_bad_at s k).1 w in let z : ◌≡◌ {A = ℕ} 0 1 = cc in omega arith

module _ (s : List ℕ) where
  -- refusal 1, "note longer than 32,768 bytes", with "its length"
  pub check_long : (n : ℕ) → (check_of s ≡ Err (Long n)) ↔ ((note_limit < length s) × (length s ≡ n))
  check_long n = (
    λ e. cases s (λ h. let f = long s h in (h, cc)) (λ h. not_long (first_bad s 0) (checks s h refl ∙ e)),
    λ w. long s w.0 ∙ ap (λ n. Err (Long n)) w.1,
  )

  -- refusal 2, with "where reading from the start first meets no good character"
  pub check_bad : (k : ℕ) → (check_of s ≡ Err (Bad k)) ↔ ((length s ≤ note_limit) × FirstBad s k)
  check_bad k = (
    λ e. cases s (λ h. let f = long s h in let z : ◌≡◌ {A = ℕ} 0 1 = cc in let no : ⊥ = omega arith in absurd no)
        (λ h. (h, (first_bad_at s k).0 (was_at (first_bad s 0) (checks s h refl ∙ e)))),
    λ w. sym (checks s w.0 (sym ((first_bad_at s k).1 w.1))),
  )

  -- neither
  pub check_good : (check_of s ≡ Ok tt) ↔ ((length s ≤ note_limit) × GoodText s)
  check_good = (
    λ e. cases s (λ h. let f = long s h in let z : ◌≡◌ {A = ℕ} 0 1 = cc in let no : ⊥ = omega arith in absurd no)
        (λ h. (h, (first_bad_nothing s).0 (was_nothing (first_bad s 0) (checks s h refl ∙ e)))),
    λ w. sym (checks s w.0 (sym ((first_bad_nothing s).1 w.1))),
  )

  -- "Given exactly when .. byte 0 or 13, or ill-formed UTF-8"
  pub refused_2 : ((k : ℕ) × (check_of s ≡ Err (Bad k))) ↔ ((length s ≤ note_limit) × (Clean s → ⊥))
  refused_2 = (
    λ v. let w = (check_bad v.0).0 v.1 in (w.0, λ g. not_both s ((good_text s).1 g) w.1),
    λ w. ⊎_elim (λ g. absurd (w.1 ((good_text s).0 g))) (λ v. (v.0, (check_bad v.0).1 (w.0, v.1))) (good_or_bad s),
  )

  pub good_note : (check_of s ≡ Ok tt) ↔ GoodNote s
  good_note = (
    λ e. let w = check_good.0 e in record { short = w.0; clean = (good_text s).0 w.1 },
    λ g. check_good.1 (g.short, (good_text s).1 g.clean),
  )
