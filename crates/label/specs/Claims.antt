-- What is claimed of the limit of 999: in well-formed text the characters that are counted are code points.
use Rattle.std.specs.Prelude.{ℕ, ◌≤◌, List, [], ◌∷◌, ◌++◌, ◌↔◌}
use Rattle.scan.specs.Closing.{Units, inner}
use Rattle.text.specs.Utf8.{Character, Run, WellFormed}
use Rattle.label.specs.Label.{label_limit, Inked, IsLabel}

-- "at most 999 characters (code points)": l is so many characters of the Unicode standard's table, one after the other
pub record FewCodePoints (l : List ℕ) : Type 0 where
  pub count : ℕ
  pub run : Run Character l count
  pub most : count ≤ label_limit

-- a label by the same marks, with code points in the place of bytes that start a sequence
pub record LabelByCodePoints (l : List ℕ) : Type 0 where
  pub text : Units (inner 93 91 93) (93 ∷ []) l
  pub inked : Inked l
  pub few : FewCodePoints l

pub record CodePointsCounted : Type 0 where
  -- of well-formed bytes by themselves, such as the enquiry is given
  pub by_itself : (l : List ℕ) → WellFormed l → IsLabel l ↔ LabelByCodePoints l
  -- of what stands between `[` and `]` in well-formed text, such as a note that is not refused
  pub in_text : (before l after : List ℕ) → WellFormed (before ++ 91 ∷ (l ++ 93 ∷ after)) → IsLabel l ↔ LabelByCodePoints l
