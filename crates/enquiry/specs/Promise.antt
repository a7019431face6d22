-- What the enquiry promises for every two texts and every label.
use Rattle.std.specs.Prelude.{ℕ, ◌≡◌, List, [], ◌∷◌}
use Rattle.texts.specs.Texts.{Texts}
use Rattle.enquiry.specs.Enquiry.{number_of, value_of, named_of, part_of, Address, address_of}
use Rattle.enquiry.specs.Reading.{enquiry_of}

-- The note lies at the address `at`, the sheet at `beside`. After the call the two texts and the label are T' and label', the three numbers lent are
-- `answer`, and the part handed back has the bytes `part` and lies at `place`.
pub record Resolved (T : Texts) (label : List ℕ) (at beside : Address) (T' : Texts) (label' answer part : List ℕ) (place : Address) : Type 0 where
  -- the answer number, its value and the text that it names, and no other number
  pub answered : answer ≡ number_of (enquiry_of T label) ∷ value_of (enquiry_of T label) ∷ named_of (enquiry_of T label) ∷ []
  pub part_bytes : part ≡ part_of T (enquiry_of T label)
  pub part_place : place ≡ address_of at beside (enquiry_of T label)
  -- "The enquiry changes no memory but the numbers lent for its answer."
  pub note_kept : T'.note ≡ T.note
  pub sheet_kept : T'.sheet ≡ T.sheet
  pub label_kept : label' ≡ label
