-- The check of two texts, as it is computed: the note's, and then the sheet's.
use Rattle.std.specs.Prelude.{ℕ, List, Err, Ok, Result}
use Rattle.text.specs.declared.Fault.TheVariants as lone
use Rattle.text.specs.Reading as reading
use Rattle.texts.specs.declared.Fault.{Fault}
use Rattle.texts.specs.declared.Fault.TheVariants.{Long, Bad}
use Rattle.texts.specs.Texts.{Texts, note_number, sheet_number}

-- nothing, or what is refused
abbrev pub Checked : Type 0
Checked = Result (Unit {0}) Fault

-- the same with the number of the text
abbrev pub named : ℕ → reading.Checked → Checked
named k (Ok done) = Ok tt
named k (Err (lone.Long n)) = Err (Long k n)
named k (Err (lone.Bad p)) = Err (Bad k p)

-- the check of the text with this number
abbrev pub checked : ℕ → List ℕ → Checked
checked k s = named k (reading.check_of s)

-- what is refused first
abbrev pub first_of : Checked → Checked → Checked
first_of (Ok done) r = r
first_of (Err f) r = Err f

unfoldable pub check_of : Texts → Checked
check_of T = first_of (checked note_number T.note) (checked sheet_number T.sheet)
