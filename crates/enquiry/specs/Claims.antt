-- What is claimed of the enquiry, for every note, sheet and label.
use Rattle.std.specs.Prelude.{ℕ, ◌+◌, ◌≤◌, ◌<◌, ◌≡◌, ◌↔◌, ◌⊎◌, List, [], ◌∷◌, length, get_or}
use Rattle.refusal.specs.Given.{Given, GivenFor}
use Rattle.text.specs.Utf8.{FirstBad, GoodNote}
use Rattle.texts.specs.Texts.{Texts, texts, note_number, text_of}
use Rattle.texts.specs.Answers.{Due1, Due2}
use Rattle.block.specs.Block.{Placed}
use Rattle.matching.specs.Form.{Equal}
use Rattle.row.specs.declared.Definition.{Definition}
use Rattle.row.specs.Row.{Listed}
use Rattle.row.specs.First.{bytes_of}
use Rattle.definition.specs.Note.{NoteIs}
use Rattle.enquiry.specs.Enquiry.{Enquiry, destination_in, number_of, value_of, named_of, Address, advanced, text_address}
use Rattle.enquiry.specs.Answers.{GoodLabel, Defines, Due8, Due7, Due0, Answers, own_labels, DefinesAlone}

-- the part is the destination of j where it stands in its own text; the note lies at the address `at`, the sheet at `beside`
pub record Handed (T : Texts) (at beside : Address) (j : Listed) (answer part : List ℕ) (place : Address) : Type 0 where
  pub numbers : answer ≡ 0 ∷ j.definition.destination.start ∷ j.text ∷ []
  pub bytes : part ≡ bytes_of (text_of T j.text) j.definition.destination
  pub own_place : place ≡ advanced (text_address at beside j.text) j.definition.destination.start
  pub size : j.definition.destination.start + length part ≡ j.definition.destination.end
  pub inside : j.definition.destination.end ≤ length (text_of T j.text)

-- Demand 1 of the enquiry. The note lies at the address `at`, the sheet at `beside`. After the call the two texts and the label are T' and label', the three
-- numbers lent are `answer`, and the part handed back has the bytes `part` and lies at `place`.
pub record Demand1 (T : Texts) (label : List ℕ) (at beside : Address) (T' : Texts) (label' answer part : List ℕ) (place : Address) : Type 0 where
  pub enquiry : Enquiry
  -- "beside it stand the answer number, 0 or the refusal's, and its start or the table's value", and the text that is "named in its answer"
  pub numbers : answer ≡ number_of enquiry ∷ value_of enquiry ∷ named_of enquiry ∷ []
  -- "The enquiry checks 1, 2, 8, 7", 1 and 2 "on the note, then both on the sheet": each line where none before it is due
  pub line_1 : (k : ℕ) → GivenFor (number_of enquiry) (named_of enquiry) (value_of enquiry) 1 k (Due1 T k) (λ v. v ≡ length (text_of T k))
  pub line_2 : (k : ℕ) → GivenFor (number_of enquiry) (named_of enquiry) (value_of enquiry) 2 k (Due2 T k) (FirstBad (text_of T k))
  pub line_8 : Given (number_of enquiry) (value_of enquiry) 8 (Due8 T label) (λ v. v ≡ 0)
  pub line_7 : Given (number_of enquiry) (value_of enquiry) 7 (Due7 T label) (λ v. v ≡ 0)
  -- success, with the start of the destination of the first entry of the joined list that has an equal label
  pub success :
      Given (number_of enquiry) (value_of enquiry) 0 ((j : Listed) × Due0 T label j) (λ v. (j : Listed) × Defines T label j × (v ≡ j.definition.destination.start))
  -- all of it at once
  pub answers : (e : Enquiry) → (enquiry ≡ e) ↔ Answers T label e
  -- "an answer about neither says 0"; on success the text of that entry
  pub names_the_note : (number_of enquiry ≡ 8) ⊎ (number_of enquiry ≡ 7) → named_of enquiry ≡ note_number
  pub names_its_text : (j : Listed) → Due0 T label j → named_of enquiry ≡ j.text
  -- "The enquiry's destination is now a part of whichever of the two texts defines the label, named in its answer", "escapes undone nowhere"
  pub handed : (j : Listed) → Due0 T label j → Handed T at beside j answer part place
  -- "On a refusal the part is empty"; it lies at the note's start
  pub refused : (number_of enquiry ≡ 0 → ⊥) → (part ≡ []) × (place ≡ at)
  -- "The enquiry changes no memory but the numbers lent for its answer."
  pub note_kept : T'.note ≡ T.note
  pub sheet_kept : T'.sheet ≡ T.sheet
  pub label_kept : label' ≡ label

-- A label that the note defines never opens the sheet's.
pub record NoteWins (note label : List ℕ) : Type 0 where
  -- where one of the note's definitions has an equal label, one of them is the first
  pub first : {ds : List Definition} {ps : List Placed} → NoteIs note ds ps → (i : ℕ) → i < length ds → Equal (get_or (own_labels note ds) i []) label
      → (d : Definition) × DefinesAlone note label d
  -- and its destination, in the note, is the answer, whatever sheet is lent beside the note
  pub wins : {d : Definition} → DefinesAlone note label d → GoodNote note → GoodLabel label → (sheet : List ℕ) → GoodNote sheet
      → (e : Enquiry) → Answers (texts note sheet) label e ↔ (e ≡ destination_in note_number d.destination.start d.destination.end)

-- two results of one call are equal in every number and byte, and lie at one place
pub record Same (answer part answer' part' : List ℕ) (place place' : Address) : Type 0 where
  pub numbers : answer ≡ answer'
  pub bytes : part ≡ part'
  pub place_same : place ≡ place'
