-- The enquiry's answer, by reading the two texts, the label and the texts' definitions.
use Rattle.std.specs.Prelude.{ℕ, List, Bool, true, false, ◌&&◌, get_or, None, Option, Some, is_none, ok_or, Err, Ok}
use Rattle.text.specs.Reading.{first_bad}
use Rattle.texts.specs.Texts.{Texts}
use Rattle.texts.specs.Reading.{Checked, check_of}
use Rattle.label.specs.Reading.{is_label}
use Rattle.row.specs.Row.{Listed}
use Rattle.row.specs.First.{labels_of, past_end}
use Rattle.row.specs.Reading.{first_match}
use Rattle.definition.specs.Reading.{definitions}
use Rattle.joined.specs.Joined.{listed_in}
use Rattle.joined.specs.Reading.{joined}
use Rattle.enquiry.specs.declared.Destination.{Destination}
use Rattle.enquiry.specs.declared.Refusal.TheVariants.{NotLabel, Undefined}
use Rattle.enquiry.specs.Enquiry.{Enquiry, of_fault}
use Rattle.enquiry.specs.Answers.{own_labels}

-- the bytes, set between `[` and `]`, are exactly one label, and good text
unfoldable pub good_label : List ℕ → Bool
good_label label = is_label label && is_none (first_bad label 0)

-- the destination that j gives
abbrev pub answer_by : Listed → Destination
answer_by j = record { text = j.text; start = j.definition.destination.start; end = j.definition.destination.end }

-- the destination of entry k of these
abbrev pub answer_at : List Listed → Option ℕ → Option Destination
answer_at js (Some k) = Some (answer_by (get_or js k past_end))
answer_at js None = None

-- what the first of these entries with an equal label gives, where their labels are ls
unfoldable pub answer_in : List (List ℕ) → List ℕ → List Listed → Option Destination
answer_in ls label js = answer_at js (first_match ls label)

-- what the text s by itself gives, where it has the number k
unfoldable pub answer_of : ℕ → List ℕ → List ℕ → Option Destination
answer_of k s label = answer_in (own_labels s (definitions s)) label (listed_in k (definitions s))

unfoldable pub answer_for : Texts → List ℕ → Option Destination
answer_for T label = answer_in (labels_of T (joined T)) label (joined T)

abbrev pub or_undefined : Option Destination → Enquiry
or_undefined d = ok_or d Undefined

-- the answer for good texts, by whether the label is good
abbrev pub labelled_enquiry : Texts → List ℕ → Bool → Enquiry
labelled_enquiry T label true = or_undefined (answer_for T label)
labelled_enquiry T label false = Err NotLabel

-- the answer by what the texts' check tells
abbrev pub checked_enquiry : Texts → List ℕ → Checked → Enquiry
checked_enquiry T label (Err f) = Err (of_fault f)
checked_enquiry T label (Ok done) = labelled_enquiry T label (good_label label)

unfoldable pub enquiry_of : Texts → List ℕ → Enquiry
enquiry_of T label = checked_enquiry T label (check_of T)
