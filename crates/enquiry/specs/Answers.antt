-- The enquiry: which answer two texts and a label have.
use Rattle.std.specs.Prelude.{ℕ, List, ◌∷◌, ◌++◌, map, ◌⊎◌, length, Err}
use Rattle.text.specs.Utf8.{Clean, FirstBad, Unclean}
use Rattle.texts.specs.Texts.{Texts, text_of}
use Rattle.texts.specs.Answers.{Due1, Due2, GoodTexts}
use Rattle.label.specs.Label.{IsLabel}
use Rattle.block.specs.Block.{Placed}
use Rattle.row.specs.declared.Definition.{Definition}
use Rattle.row.specs.Row.{Listed}
use Rattle.row.specs.First.{bytes_of, labels_of, FirstEqual, NoneEqual}
use Rattle.definition.specs.Note.{NoteIs}
use Rattle.joined.specs.Joined.{JoinedIs}
use Rattle.enquiry.specs.declared.Refusal.TheVariants.{Long, Bad, NotLabel, Undefined}
use Rattle.enquiry.specs.Enquiry.{Enquiry, destination_in}

-- 8: "the bytes given, set between `[` and `]`, are not exactly one label, or hold byte 0 or 13 or ill-formed UTF-8"
abbrev pub NoLabel : List ℕ → Type 0
NoLabel label = (IsLabel label → ⊥) ⊎ Unclean label

-- not 8
pub record GoodLabel (label : List ℕ) : Type 0 where
  pub is_a_label : IsLabel label
  pub clean : Clean label

-- js is the joined list of the texts T
pub record ListOf (T : Texts) (js : List Listed) : Type 0 where
  pub paragraphs : List Placed
  pub joined : JoinedIs T js paragraphs

-- 7: "no definition has an equal label"
pub record NoDefinition (T : Texts) (label : List ℕ) : Type 0 where
  pub list : List Listed
  pub all : ListOf T list
  pub none : NoneEqual (labels_of T list) label

-- j is the entry that a lookup finds: "Lookup takes the note's definitions first, then the sheet's, first equal label wins."
pub record Defines (T : Texts) (label : List ℕ) (j : Listed) : Type 0 where
  pub before : List Listed
  pub after : List Listed
  pub all : ListOf T (before ++ j ∷ after)
  pub first : FirstEqual (labels_of T (before ++ j ∷ after)) label (length before)

-- ---- "Given exactly when", in the order in which "The enquiry checks 1, 2, 8, 7", 1 and 2 "on the note, then both on the sheet" (`Due1`, `Due2`): each where
-- none before it is due
abbrev pub Due8 : Texts → List ℕ → Type 0
Due8 T label = GoodTexts T × NoLabel label

abbrev pub Due7 : Texts → List ℕ → Type 0
Due7 T label = GoodTexts T × GoodLabel label × NoDefinition T label

-- success, by the entry j
abbrev pub Due0 : Texts → List ℕ → Listed → Type 0
Due0 T label j = GoodTexts T × GoodLabel label × Defines T label j

-- the answer to two texts and a label
pub data Answers (T : Texts) (label : List ℕ) : Enquiry → Type 0 where
  -- with "its length"
  long : {k : ℕ} → Due1 T k → Answers T label (Err (Long k (length (text_of T k))))
  -- with "where reading from the start first meets no good character"
  bad : {k place : ℕ} → Due2 T k → FirstBad (text_of T k) place → Answers T label (Err (Bad k place))
  not_label : Due8 T label → Answers T label (Err NotLabel)
  undefined : Due7 T label → Answers T label (Err Undefined)
  -- with the text that defines the label, and the destination's start and end in it
  destination : {j : Listed} → Due0 T label j → Answers T label (destination_in j.text j.definition.destination.start j.definition.destination.end)

-- ---- a text by itself
-- the labels of these definitions of the text s
abbrev pub own_labels : List ℕ → List Definition → List (List ℕ)
own_labels s = map (λ d. bytes_of s d.label)

-- d is the first of the definitions of the text s that has an equal label
pub record DefinesAlone (s label : List ℕ) (d : Definition) : Type 0 where
  pub before : List Definition
  pub after : List Definition
  pub paragraphs : List Placed
  pub read : NoteIs s (before ++ d ∷ after) paragraphs
  pub first : FirstEqual (own_labels s (before ++ d ∷ after)) label (length before)
