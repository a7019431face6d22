-- Strides of bytes that are good characters each are good text.
use Rattle.std.specs.Prelude.{Option, Some}
use Prim.Native.Nat.{ℕ, ◌+◌, ◌-◌, ◌%◌, ◌≤◌, ◌<◌}
use native.Mathlib.Omega.{arith}
use mathlib.Core.Path.{◌≡◌, refl, sym, ◌∙◌}
use mathlib.Core.List.{List, ◌∷◌}
use mathlib.Core.Bool.{true}
use borrow.Author.Tests.{eq-eqb, ne_eqb, eqb-true, eqb-false, leb-true, not-true}
use lib.Dec.{leb, eqb}
use lib.ListN.{length, drop}
use Rattle.scan.proofs.Test.{by, and_left, and_right}
use Rattle.scan.specs.Reading.{past_strides}
use Rattle.scan.proofs.Strides.{strides_through}
use Rattle.text.specs.Reading.{good_length, good_ascii, past_ascii, first_bad}
use Rattle.text.proofs.ByOnes.{ascii_length}
use Rattle.text.proofs.Steps.{first_on, good_passed, within_note}

module _ (b : ℕ) (l : List ℕ) where
  good_one : good_ascii b ≡ true → good_length (b ∷ l) ≡ Some 1
  unfolding good_length
  good_one e =
      let h = leb-true b 127 (and_left (leb b 127) _ e) in
      simp (not-true _ (and_right (leb b 127) _ e)) (ascii_length b l (omega arith))

  first_byte : (at : ℕ) → good_ascii b ≡ true → first_bad (b ∷ l) at ≡ first_bad l (at + 1)
  first_byte at e = first_on (b ∷ l) at 1 (good_one e)

module _ (s : List ℕ) (at : ℕ) where
  pub tried : {r : ℕ} → at % 16 ≡ 0 → r ≡ past_strides good_ascii s at → r ≡ past_ascii s at
  unfolding past_ascii
  tried e q = rw (eq-eqb (at % 16) 0 e, past_ascii) q

  pub untried : (at % 16 ≡ 0 → ⊥) → at ≡ past_ascii s at
  unfolding past_ascii
  untried n = rw (ne_eqb (at % 16) 0 n, past_ascii)

  -- it lies no earlier, and reading goes on from it as it would have
  pub past_later : at ≤ past_ascii s at
  unfolding past_ascii past_strides
  past_later = by (eqb (at % 16) 0) (λ e. rw (e, past_ascii) (omega arith)) (λ e. rw (e, past_ascii) (omega arith))

  pub past_same : {r : ℕ} → r ≡ past_ascii s at → first_bad (drop r s) r ≡ first_bad (drop at s) at
  past_same q =
      rw q
      (by (eqb (at % 16) 0) (λ e. rw (← tried (eqb-true (at % 16) 0 e) refl) (strides_through good_ascii first_bad first_byte s at))
      (λ e. rw (← untried (eqb-false (at % 16) 0 e))))

pub from_start : (s : List ℕ) {i : ℕ} → i ≡ past_ascii s 0 → first_bad (drop i s) i ≡ first_bad s 0
from_start s e = past_same s 0 e

-- with the loop's invariant in hand, `first_bad (drop i s) i ≡ r`; n and k are what calls answered
module _ (s : List ℕ) (i : ℕ) {n k : ℕ} {a : Option ℕ} (e : a ≡ good_length (drop i s)) (z : a ≡ Some n) (q : k ≡ past_ascii s (i + n)) where
  pub goes_on : {r : Option ℕ} → first_bad (drop i s) i ≡ r → first_bad (drop k s) k ≡ r
  goes_on inv = past_same s (i + n) q ∙ good_passed s i inv (sym e ∙ z)

  pub later : i < length s → length s - k < length s - i
  later h = omega (arith, past_later s (i + n), within_note s i h (sym e ∙ z))
