-- The rows of a definition table, with the texts in which their definitions stand.
use Rattle.std.specs.Prelude.{ℕ, ◌*◌, List, Option}
use Rattle.texts.specs.Texts.{Texts, texts}
use Rattle.row.specs.declared.listing.Definitions.{Definitions}
use Rattle.row.specs.Row.{width}
use Rattle.row.specs.Reading.{label_at, row_of}

abbrev pub texts_of : Definitions → Texts
texts_of d = texts d.note.now d.sheet.now

-- the label of row k
abbrev pub label_in : Definitions → ℕ → List ℕ
label_in d k = label_at (texts_of d) d.table.now (k * width)

-- the first row whose label matches
abbrev pub row_with : Definitions → List ℕ → Option ℕ
row_with d label = row_of (texts_of d) d.table.now label d.count
