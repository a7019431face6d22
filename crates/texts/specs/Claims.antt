-- What is claimed of the answer of `check` to every two texts.
use Rattle.std.specs.Prelude.{ℕ, ◌≡◌, length}
use Rattle.refusal.specs.Given.{Given, GivenFor}
use Rattle.text.specs.Utf8.{FirstBad}
use Rattle.texts.specs.Texts.{Texts, text_of}
use Rattle.texts.specs.Answers.{Due1, Due2, GoodTexts}
use Rattle.texts.specs.Reading.{Checked}
use Rattle.texts.specs.Promise.{number_of, value_of, named_of}

-- Lines 1 and 2 of the table, for each text, of the answer r to the texts T.
pub record TextsChecked (T : Texts) (r : Checked) : Type 0 where
  pub line_1 : (k : ℕ) → GivenFor (number_of r) (named_of r) (value_of r) 1 k (Due1 T k) (λ v. v ≡ length (text_of T k))
  pub line_2 : (k : ℕ) → GivenFor (number_of r) (named_of r) (value_of r) 2 k (Due2 T k) (FirstBad (text_of T k))
  -- neither applies to either text
  pub success : Given (number_of r) (value_of r) 0 (GoodTexts T) (λ v. v ≡ 0)
  -- "an answer about neither says 0"
  pub neither : GoodTexts T → named_of r ≡ 0
