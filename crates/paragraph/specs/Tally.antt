-- What the reading of paragraphs answers: refusal 4; or where the walk stands at the end. Document 01, "Refusal numbers".
use Rattle.std.specs.Prelude.{ℕ, ◌+◌, Result, Ok, Err}
use Rattle.std.proofs.Math.Option.{Option, none, some}
use Rattle.step.specs.declared.Walk.{Walk}
use Rattle.paragraph.specs.declared.Deep.{Deep}

-- 4: some paragraph has over `depth_limit` brackets open at once
abbrev pub number_of : Result Walk Deep → ℕ
number_of (Err deep) = 4
number_of (Ok w) = 0

-- "place of the first bracket too many"
abbrev pub value_of : Result Walk Deep → ℕ
value_of (Err deep) = deep.place
value_of (Ok w) = 0

-- a place of the paragraph at place `offset` of the note, as a place of the note
abbrev pub in_note : ℕ → Option ℕ → Option ℕ
in_note offset (some place) = some (offset + place)
in_note offset none = none

-- by the first bracket too many, if there is one
abbrev pub tally_of : Option ℕ → Walk → Result Walk Deep
tally_of (some place) w = Err (record { place = place })
tally_of none w = Ok w
