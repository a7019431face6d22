-- What the exported enquiry promises: the enquiry's answer in numbers, and that it changes nothing else.
use Rattle.std.specs.Prelude.{ℕ, ◌≡◌, List, [], ◌∷◌, Ok, Err, cond, eqb}
use Rattle.texts.specs.Texts.{Texts}
use Rattle.enquiry.specs.Enquiry.{Enquiry, number_of, value_of, named_of}
use Rattle.enquiry.specs.Reading.{enquiry_of}

-- The part that is handed back, as two places in the text that the answer names; 0, 0 on a refusal.
abbrev pub destination_start : Enquiry → ℕ
destination_start (Ok d) = d.start
destination_start (Err refusal) = 0

abbrev pub destination_end : Enquiry → ℕ
destination_end (Ok d) = d.end
destination_end (Err refusal) = 0

-- the start of the part, by the answer's number and value
abbrev pub start_by : ℕ → ℕ → ℕ
start_by number value = cond (eqb number 0) value 0

-- the value ("its start or the table's value"), then the part, and the text that the answer names
abbrev pub numbers_of : Enquiry → List ℕ
numbers_of e = value_of e ∷ destination_start e ∷ destination_end e ∷ named_of e ∷ []

-- The call returns `number` and leaves the texts T', label' and the four numbers `answer`.
pub record ResolvePromise (T : Texts) (label : List ℕ) (number : ℕ) (T' : Texts) (label' answer : List ℕ) : Type 0 where
  -- "the answer number, 0 or the refusal's"
  pub answered : number ≡ number_of (enquiry_of T label)
  pub numbers : answer ≡ numbers_of (enquiry_of T label)
  -- "The enquiry changes no memory but the numbers lent for its answer."
  pub note_kept : T'.note ≡ T.note
  pub sheet_kept : T'.sheet ≡ T.sheet
  pub label_kept : label' ≡ label
