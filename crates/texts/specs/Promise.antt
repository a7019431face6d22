-- What `check` promises of two texts.
use Rattle.std.specs.Prelude.{ℕ, ◌≡◌, Err, Ok}
use Rattle.texts.specs.declared.Fault.TheVariants.{Long, Bad}
use Rattle.texts.specs.Texts.{Texts}
use Rattle.texts.specs.Reading.{Checked, check_of}

-- "Success is number 0", and the refusals that the texts' bytes alone decide
abbrev pub number_of : Checked → ℕ
number_of (Ok done) = 0
number_of (Err (Long k size)) = 1
number_of (Err (Bad k place)) = 2

-- "Returned with it": "its length"; "where reading from the start first meets no good character"
abbrev pub value_of : Checked → ℕ
value_of (Ok done) = 0
value_of (Err (Long k size)) = size
value_of (Err (Bad k place)) = place

-- "and say which text, 0 the note, 1 the sheet; an answer about neither says 0"
abbrev pub named_of : Checked → ℕ
named_of (Ok done) = 0
named_of (Err (Long k size)) = k
named_of (Err (Bad k place)) = k

-- for the texts T the answer is r
pub record Promise (T : Texts) (r : Checked) : Type 0 where
  pub answer : r ≡ check_of T
  pub number : number_of r ≡ number_of (check_of T)
  pub value : value_of r ≡ value_of (check_of T)
  pub named : named_of r ≡ named_of (check_of T)
