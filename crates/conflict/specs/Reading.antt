-- The first definition that conflicts, as it is found: each is compared with the first one of equal label alone.
use Rattle.std.specs.Prelude.{ℕ, zero, suc, ◌+◌, List, Bool, true, false, not, ◌&&◌, ◌||◌, length, take, eqb, None, Option, Some}
use Rattle.std.specs.Bool.{beq}
use Rattle.matching.specs.Reading.{equals}
use Rattle.texts.specs.Texts.{Texts}
use Rattle.row.specs.declared.Range.{Range}
use Rattle.row.specs.declared.Definition.{Definition}
use Rattle.row.specs.Row.{Listed}
use Rattle.row.specs.First.{labels_of}
use Rattle.row.specs.Reading.{first_match, Within}
use Rattle.joined.specs.Reading.{joined}
use Rattle.conflict.specs.Conflict.{label_bytes, destination_bytes, title_bytes, entry}

-- "An absent part is 0, 0."
abbrev pub is_absent : Range → Bool
is_absent r = eqb r.start 0 && eqb r.end 0

-- whether two definitions differ
unfoldable pub differ : Texts → Listed → Listed → Bool
differ T a b =
    not (beq (is_absent a.definition.title) (is_absent b.definition.title))
    || (not (equals (destination_bytes T a) (destination_bytes T b)) || not (equals (title_bytes T a) (title_bytes T b)))

-- whether j differs from the one of these that is found
unfoldable pub differs_from : Texts → List Listed → Listed → Option ℕ → Bool
differs_from T js j (Some i) = differ T (entry js i) j
differs_from T js j None = false

-- whether j differs from the first of these with an equal label
abbrev pub conflicts : Texts → List Listed → Listed → Bool
conflicts T js j = differs_from T js j (first_match (labels_of T js) (label_bytes T j))

-- the first of n definitions from number k on that differs so from those before it
unfoldable pub conflict_from : Texts → List Listed → ℕ → ℕ → Option ℕ
conflict_from T js k zero = None
conflict_from T js k (suc n) = elim (conflicts T (take k js) (entry js k)) [ true ↦ Some k | false ↦ conflict_from T js (k + 1) n ]

unfoldable pub first_conflict : Texts → Option ℕ
first_conflict T = conflict_from T (joined T) 0 (length (joined T))

-- ---- what the code asks for
-- the parts of a definition of the text s lie within it
pub record PartsWithin (s : List ℕ) (d : Definition) : Type 0 where
  pub label : Within s d.label
  pub destination : Within s d.destination
  pub title : Within s d.title
