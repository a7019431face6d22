-- Refusals 1 and 2 of two texts: which of them is due, and for which text. "refusals 1 and 2 are checked on the note, then both on the sheet, and say
-- which text": each where none before it is due.
use Rattle.std.specs.Prelude.{ℕ, ◌≤◌, length}
use Rattle.text.specs.Utf8.{note_limit, TooLong, Unclean, GoodNote}
use Rattle.texts.specs.Texts.{Texts, note_number, sheet_number}

-- 1 is due for the text with this number
pub data Due1 (T : Texts) : ℕ → Type 0 where
  note : TooLong T.note → Due1 T note_number
  sheet : GoodNote T.note → TooLong T.sheet → Due1 T sheet_number

-- 2 is due for the text with this number
pub data Due2 (T : Texts) : ℕ → Type 0 where
  note : length T.note ≤ note_limit → Unclean T.note → Due2 T note_number
  sheet : GoodNote T.note → length T.sheet ≤ note_limit → Unclean T.sheet → Due2 T sheet_number

-- neither is due: "The sheet is a second text under the same limits"
pub record GoodTexts (T : Texts) : Type 0 where
  pub note : GoodNote T.note
  pub sheet : GoodNote T.sheet
