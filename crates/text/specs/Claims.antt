-- What is claimed of the answer of `check` to every note, and of sequence lengths.
use Rattle.std.specs.Prelude.{ℕ, ◌≤◌, ◌≡◌, List, ◌∷◌, length, None, Some}
use Rattle.refusal.specs.Given.{Given}
use Rattle.text.specs.Utf8.{Character, Run, FirstBad, note_limit, TooLong, Unclean, GoodNote}
use Rattle.text.specs.Sequences.{sequence_length, characters}
use Rattle.text.specs.Reading.{Checked}
use Rattle.text.specs.Promise.{number_of, value_of}

-- Lines 1 and 2 of the table, of the answer r to the note s. "The first that applies .. is the answer": 2 where 1 does not apply.
pub record NoteChecked (s : List ℕ) (r : Checked) : Type 0 where
  pub line_1 : Given (number_of r) (value_of r) 1 (TooLong s) (λ v. v ≡ length s)
  pub line_2 : Given (number_of r) (value_of r) 2 ((length s ≤ note_limit) × Unclean s) (FirstBad s)
  -- neither applies
  pub success : Given (number_of r) (value_of r) 0 (GoodNote s) (λ v. v ≡ 0)

-- The length that a first byte announces, held against the characters of the table.
pub record SequencesCounted : Type 0 where
  -- "A sequence length is the count of leading one bits of its first byte, where none means one byte"
  pub size : (b : ℕ) (c : List ℕ) → Character (b ∷ c) → sequence_length b ≡ Some (length (b ∷ c))
  -- "one or more than four is ill-formed"
  pub ill_formed : (b : ℕ) (c : List ℕ) → sequence_length b ≡ None → Character (b ∷ c) → ⊥
  -- the bytes that start a sequence are as many as the code points
  pub code_points : (s : List ℕ) (n : ℕ) → Run Character s n → characters s ≡ n
