-- What each answer of the enquiry means: its number, its value, the text that it names, and the part that is handed back.
use Rattle.std.specs.Prelude.{ℕ, zero, suc, ◌+◌, ◌-◌, List, [], take, drop, Err, Ok, Result}
use Rattle.texts.specs.Texts.{Texts, note_number, text_of}
use Rattle.texts.specs.declared.Fault.{Fault}
use Rattle.texts.specs.declared.Fault.TheVariants as fault
use Rattle.enquiry.specs.declared.Destination.{Destination}
use Rattle.enquiry.specs.declared.Refusal.{Refusal}
use Rattle.enquiry.specs.declared.Refusal.TheVariants.{Long, Bad, NotLabel, Undefined}

-- a destination, or what is refused
abbrev pub Enquiry : Type 0
Enquiry = Result Destination Refusal

-- the destination from `start` to `end` of the text with this number
abbrev pub destination_in : ℕ → ℕ → ℕ → Enquiry
destination_in text start end = Ok (record { text = text; start = start; end = end })

-- refusals 1 and 2
abbrev pub of_fault : Fault → Refusal
of_fault (fault.Long text size) = Long text size
of_fault (fault.Bad text place) = Bad text place

-- "the answer number, 0 or the refusal's"
abbrev pub number_of : Enquiry → ℕ
number_of (Ok d) = 0
number_of (Err (Long text size)) = 1
number_of (Err (Bad text place)) = 2
number_of (Err NotLabel) = 8
number_of (Err Undefined) = 7

-- "its start or the table's value": the part's start; "its length"; "where reading from the start first meets no good character"; 0
abbrev pub value_of : Enquiry → ℕ
value_of (Ok d) = d.start
value_of (Err (Long text size)) = size
value_of (Err (Bad text place)) = place
value_of (Err NotLabel) = 0
value_of (Err Undefined) = 0

-- "whichever of the two texts defines the label, named in its answer"; refusals 1 and 2 "say which text, 0 the note, 1 the sheet; an answer about neither says 0"
abbrev pub named_of : Enquiry → ℕ
named_of (Ok d) = d.text
named_of (Err (Long text size)) = text
named_of (Err (Bad text place)) = text
named_of (Err NotLabel) = note_number
named_of (Err Undefined) = note_number

-- "a part of whichever of the two texts defines the label", "escapes undone nowhere"; "On a refusal the part is empty"
abbrev pub part_of : Texts → Enquiry → List ℕ
part_of T (Ok d) = take (d.end - d.start) (drop d.start (text_of T d.text))
part_of T (Err (Long text size)) = []
part_of T (Err (Bad text place)) = []
part_of T (Err NotLabel) = []
part_of T (Err Undefined) = []

-- An address in memory: a block and an offset in it.
abbrev pub Address : Type 0
Address = ℕ × ℕ

-- n bytes further
abbrev pub advanced : Address → ℕ → Address
advanced a n = (a.0, n + a.1)

-- where the text with this number lies, if the note lies at a and the sheet at b
abbrev pub text_address : Address → Address → ℕ → Address
text_address a b zero = a
text_address a b (suc k) = b

-- where the part lies, if the note lies at a and the sheet at b: the destination's own place; on a refusal the note's start
abbrev pub address_of : Address → Address → Enquiry → Address
address_of a b (Ok d) = advanced (text_address a b d.text) d.start
address_of a b (Err (Long text size)) = a
address_of a b (Err (Bad text place)) = a
address_of a b (Err NotLabel) = a
address_of a b (Err Undefined) = a
