-- What `check` promises of a note. Document 01, "Refusal numbers".
use Rattle.std.specs.Prelude.{ℕ, ◌≡◌, List, Err, Ok}
use Rattle.text.specs.declared.Fault.TheVariants.{Long, Bad}
use Rattle.text.specs.Reading.{Checked, check_of}

-- "Success is number 0", and the refusals that a note's bytes alone decide
abbrev pub number_of : Checked → ℕ
number_of (Ok done) = 0
number_of (Err (Long size)) = 1
number_of (Err (Bad place)) = 2

-- "Returned with it": "its length"; "where reading from the start first meets no good character"
abbrev pub value_of : Checked → ℕ
value_of (Ok done) = 0
value_of (Err (Long size)) = size
value_of (Err (Bad place)) = place

-- for the note s the answer is r
pub record Promise (s : List ℕ) (r : Checked) : Type 0 where
  pub answer : r ≡ check_of s
  pub number : number_of r ≡ number_of (check_of s)
  pub value : value_of r ≡ value_of (check_of s)
