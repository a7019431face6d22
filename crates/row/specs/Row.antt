-- Definition rows, and what a table holds.
use Rattle.std.specs.Prelude.{ℕ, ◌-◌, ◌<◌, ◌^◌, List, [], ◌∷◌, map}
use Rattle.line.specs.Line.{line_of}
use Rattle.texts.specs.Texts.{Texts, text_of}
use Rattle.rows.specs.Rows
use Rattle.row.specs.declared.Range.{Range}
use Rattle.row.specs.declared.Definition.{Definition}

abbrev pub range : ℕ → ℕ → Range
range s e = record { start = s; end = e }

-- "An absent part is 0, 0."
abbrev pub absent : Range
absent = range 0 0

abbrev pub definition : Range → Range → Range → Definition
definition l d t = record { label = l; destination = d; title = t }

-- a definition with the number of the text in which it stands: an entry of the joined list
pub record Listed : Type 0 where
  pub text : ℕ
  pub definition : Definition

abbrev pub listed : ℕ → Definition → Listed
listed k d = record { text = k; definition = d }

-- the definitions themselves
abbrev pub definitions_of : List Listed → List Definition
definitions_of = map (λ j. j.definition)

-- "Definition row, six 32-bit numbers"; document 02, request 9: "Each definition row .. gets one more number at its end"; and request 1: "Definition rows
-- gain a leading number"
abbrev pub width : ℕ
width = 8

-- "0 for note and 1 for sheet", "label start and end (inside the brackets), destination start and end, title start and end", and the line
abbrev pub numbers_on : ℕ → ℕ → Definition → List ℕ
numbers_on k line d =
    k ∷ d.label.start ∷ d.label.end ∷ d.destination.start ∷ d.destination.end ∷ d.title.start ∷ d.title.end ∷ line ∷ []

-- the place of the label's opening bracket: the label starts right after it
abbrev pub opening : Definition → ℕ
opening d = d.label.start - 1

-- the row of a definition of the text s, which has the number k: "the line of the label's opening bracket .. in its own text"
abbrev pub numbers_in : ℕ → List ℕ → Definition → List ℕ
numbers_in k s d = numbers_on k (line_of s (opening d)) d

-- the row of an entry of the joined list
abbrev pub numbers : Texts → Listed → List ℕ
numbers T j = numbers_in j.text (text_of T j.text) j.definition

-- "All definitions stand there in note order, repeats too."
abbrev pub rows : Texts → List Listed → List ℕ
rows T = Rows.rows (numbers T)

-- "fewer whole definition rows lent than definitions"
abbrev pub whole_rows : List ℕ → ℕ
whole_rows t = Rows.whole_rows width t

-- the table after as many of these rows as fit were put in front
abbrev pub filled : Texts → List Listed → List ℕ → List ℕ
filled T = Rows.filled width (numbers T)

-- ---- one row
-- a part's places are 32-bit numbers
pub record SmallPart (r : Range) : Type 0 where
  pub start : r.start < 2 ^ 32
  pub end : r.end < 2 ^ 32

pub record Small (d : Definition) : Type 0 where
  pub label : SmallPart d.label
  pub destination : SmallPart d.destination
  pub title : SmallPart d.title

abbrev pub stored_range : List ℕ → ℕ → Range → List ℕ
stored_range t at r = Rows.put t at (r.start ∷ r.end ∷ [])

-- the table with the row of a definition of text k on this line as row n, if there is one
abbrev pub stored_on : ℕ → ℕ → List ℕ → ℕ → Definition → List ℕ
stored_on k line = Rows.stored width (numbers_on k line)

-- the same with the row of a definition of the text s, which has the number k
abbrev pub stored : ℕ → List ℕ → List ℕ → ℕ → Definition → List ℕ
stored k s = Rows.stored width (numbers_in k s)

-- the table with the rows of these definitions of the text s from row n on, as far as they fit
abbrev pub stored_all : ℕ → List ℕ → List ℕ → ℕ → List Definition → List ℕ
stored_all k s = Rows.stored_all width (numbers_in k s)
