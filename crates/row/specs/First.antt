-- The definition that a label finds.
use Rattle.std.specs.Prelude.{ℕ, zero, suc, ◌-◌, ◌<◌, List, [], map, length, get_or, take, drop}
use Rattle.matching.specs.Form.{Equal}
use Rattle.texts.specs.Texts.{Texts, note_number, text_of}
use Rattle.row.specs.declared.Range.{Range}
use Rattle.row.specs.Row.{absent, definition, Listed, listed}

-- the bytes of a part of a text: "Ends are exclusive, places count from the note's start."
abbrev pub bytes_of : List ℕ → Range → List ℕ
bytes_of s r = take (r.end - r.start) (drop r.start s)

-- the labels of these entries of the joined list, each from its own text
abbrev pub labels_of : Texts → List Listed → List (List ℕ)
labels_of T = map (λ j. bytes_of (text_of T j.text) j.definition.label)

-- stands for what lies past the end of the joined list
abbrev pub past_end : Listed
past_end = listed note_number (definition absent absent absent)

-- the text in which the destination and the title of a link lie, by its definition number: "A reference's destination and title places lie in the text that
-- its definition row names", those of an inline link, which has number 0, in the note
abbrev pub named_text : Texts → List Listed → ℕ → List ℕ
named_text T js zero = T.note
named_text T js (suc k) = text_of T (get_or js k past_end).text

-- "In a lookup the search stops at the first equal label": label k is equal, and none before it is.
pub record FirstEqual (labels : List (List ℕ)) (label : List ℕ) (k : ℕ) : Type 0 where
  pub within : k < length labels
  pub equal : Equal (get_or labels k []) label
  pub first : (i : ℕ) → i < k → Equal (get_or labels i []) label → ⊥

-- "no definition has an equal label"
abbrev pub NoneEqual : List (List ℕ) → List ℕ → Type 0
NoneEqual labels label = (i : ℕ) → i < length labels → Equal (get_or labels i []) label → ⊥
