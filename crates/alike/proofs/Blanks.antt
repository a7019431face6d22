-- A run of blanks that ends at once.
use Prim.Native.Nat.{ℕ, ◌+◌, ◌<◌}
use mathlib.Core.Path.{◌≡◌, refl, sym, ap, ◌∙◌}
use mathlib.Core.Bool.{Bool, true, false, true≢false, not}
use mathlib.Core.List.{List}
use borrow.Author.Tests.{ltb-true, ltb-false, not-true, not-false}
use lib.ListN.{length, get_or}
use lib.Dec.{ltb}
use Rattle.scan.specs.Byte.{blank}
use Rattle.scan.specs.Reading.{past}
use Rattle.scan.proofs.Test.{by}
use Rattle.scan.proofs.Scan.{peek_inside, past_on, past_stop, past_end}

-- ---- p and q are what the calls for the bytes b and d at i and after it answered
module _ (s : List ℕ) (i : ℕ) where
  pub no_blank : {b : ℕ} {p : Bool} → b ≡ get_or s i 0 → p ≡ blank b → not p ≡ true → i ≡ past blank s i
  no_blank {b} {p} g e k =
      by (ltb i (length s)) (λ h. past_stop blank s i refl (ltb-true i (length s) h) refl (ap blank (sym g) ∙ sym e ∙ not-true p k))
      (λ h. past_end blank s i refl (ltb-false i (length s) h))

  module _ {b : ℕ} {p : Bool} (g : b ≡ get_or s i 0) (e : p ≡ blank b) (k : not p ≡ false) where
    here : blank (get_or s i 0) ≡ true
    here = ap blank (sym g) ∙ sym e ∙ not-false p k

    pub blank_inside : i < length s
    blank_inside = peek_inside s i (λ z. true≢false (sym here ∙ ap blank z))

    pub blank_over : past blank s (i + 1) ≡ past blank s i
    blank_over = past_on blank s i refl blank_inside refl here

pub one_blank : (s : List ℕ) (i : ℕ) {b d : ℕ} {p q : Bool} → b ≡ get_or s i 0 → p ≡ blank b → not p ≡ false
    → d ≡ get_or s (i + 1) 0 → q ≡ blank d → not q ≡ true → i + 1 ≡ past blank s i
one_blank s i g e k h f l = no_blank s (i + 1) h f l ∙ blank_over s i g e k
