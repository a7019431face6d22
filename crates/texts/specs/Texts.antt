-- The two texts that are lent: the note, and the sheet beside it. Document 02, request 1.
use Rattle.std.specs.Prelude.{ℕ, zero, suc, List}

pub record Texts : Type 0 where
  pub note : List ℕ
  -- "one sheet of definitions lent beside every notice"
  pub sheet : List ℕ

abbrev pub texts : List ℕ → List ℕ → Texts
texts note sheet = record { note = note; sheet = sheet }

-- "which text, 0 the note, 1 the sheet"
abbrev pub note_number : ℕ
note_number = 0

abbrev pub sheet_number : ℕ
sheet_number = 1

-- the text with this number
abbrev pub text_of : Texts → ℕ → List ℕ
text_of T zero = T.note
text_of T (suc k) = T.sheet
