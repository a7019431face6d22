-- What the exported comparison promises: 1 exactly when the two labels are equal, else 0, and that it changes nothing.
use Rattle.std.specs.Prelude.{ℕ, ◌≡◌, ◌↔◌, List, Bool, cond}
use Rattle.matching.specs.Form.{Equal}
use Rattle.matching.specs.Reading.{matches}

-- 1 for yes and 0 for no
abbrev pub number_of : Bool → ℕ
number_of equal = cond equal 1 0

-- The call returns `number` and leaves a' and b'.
pub record SameLabelPromise (a b : List ℕ) (number : ℕ) (a' b' : List ℕ) : Type 0 where
  pub answered : number ≡ number_of (matches a b)
  -- by the law: "Equal labels: ..; then the bytes agree. Escapes are not undone."
  pub equal : (number ≡ 1) ↔ Equal a b
  pub unequal : (number ≡ 0) ↔ (Equal a b → ⊥)
  pub a_kept : a' ≡ a
  pub b_kept : b' ≡ b
