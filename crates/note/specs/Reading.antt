-- The span rows of a note and its first bracket too many, paragraph by paragraph.
use Rattle.std.specs.Prelude.{ℕ, ◌+◌, List, [], ◌∷◌, ◌++◌}
use Rattle.std.proofs.Math.Option.{Option, none, some}
use Rattle.marking.specs.ReadingSpans.{over}
use Rattle.texts.specs.Texts.{Texts}
use Rattle.block.specs.Block.{Placed}
use Rattle.row.specs.declared.Definition.{Definition}
use Rattle.row.specs.Row.{definitions_of}
use Rattle.row.specs.First.{labels_of}
use Rattle.definition.specs.Reading.{paragraphs}
use Rattle.joined.specs.Reading.{joined}
use Rattle.inline.specs.Reading.{grammar}
use Rattle.inline.specs.ReadingRows as paragraph
use Rattle.note.specs.Note.{depth_limit}

-- the labels of the joined list, as bytes
unfoldable pub labels : Texts → List (List ℕ)
labels T = labels_of T (joined T)

-- ---- span rows
-- the rows of these paragraphs of the note s, where the definitions ds have these labels
unfoldable pub rows_in : List ℕ → List (List ℕ) → List Definition → List Placed → List (List ℕ)
rows_in s ls ds [] = []
rows_in s ls ds (q ∷ ps) = paragraph.span_rows s q.at q.bytes ls ds ++ rows_in s ls ds ps

unfoldable pub span_rows : Texts → List (List ℕ)
span_rows T = rows_in T.note (labels T) (definitions_of (joined T)) (paragraphs T.note)

-- ---- brackets open at once
-- the place in the paragraph, from the note's start; or what is found later
abbrev pub place_or : ℕ → Option ℕ → Option ℕ → Option ℕ
place_or at (some p) later = some (at + p)
place_or at none later = later

unfoldable pub deep_in : List (List ℕ) → List Placed → Option ℕ
deep_in ls [] = none
deep_in ls (q ∷ ps) = place_or q.at (over depth_limit (grammar q.bytes ls)) (deep_in ls ps)

-- the place of the first bracket with which more than `depth_limit` are open in one paragraph
unfoldable pub first_deep : Texts → Option ℕ
first_deep T = deep_in (labels T) (paragraphs T.note)
