-- Two texts and the answer of their check, by computation.
use Rattle.std.specs.Prelude.{ℕ, ◌≡◌, refl, List, [], ◌∷◌, replicate, Err, Ok}
use Rattle.text.specs.Utf8.{table}
use Rattle.text.specs.Sequences.{ones_from, leading_ones, sequence_length}
use Rattle.text.specs.Reading as text
use Rattle.texts.specs.declared.Fault.TheVariants.{Long, Bad}
use Rattle.texts.specs.Texts.{texts}
use Rattle.texts.specs.Reading.{Checked, check_of}

abbrev long : List ℕ
long = replicate 32769 97

abbrev checked : List ℕ → List ℕ → Checked
checked note sheet = check_of (texts note sheet)

pub record Samples : Type 0 where
  pub both_good : checked (97 ∷ []) [] ≡ Ok tt
  pub note_first : checked (97 ∷ 0 ∷ []) (13 ∷ []) ≡ Err (Bad 0 1)
  pub sheet_bad : checked (97 ∷ []) (97 ∷ 97 ∷ 0xC3 ∷ []) ≡ Err (Bad 1 2)
  -- both are checked on the note, then both on the sheet
  pub note_bad_sheet_long : checked (13 ∷ []) long ≡ Err (Bad 0 0)
  pub note_long_sheet_bad : checked long (13 ∷ []) ≡ Err (Long 0 32769)
  pub sheet_long : checked [] long ≡ Err (Long 1 32769)

pub samples : Samples
unfolding check_of text.check_of text.first_bad text.first_bad_past text.good_length text.character_length text.starts text.row_for table ones_from leading_ones sequence_length
samples =
    record {
      both_good = refl;
      note_first = refl;
      sheet_bad = refl;
      note_bad_sheet_long = refl;
      note_long_sheet_bad = refl;
      sheet_long = refl;
    }
