-- The line of a place in a text: document 02, request 9.
use Rattle.std.specs.Prelude.{ℕ, ◌+◌, List, take, eqb, count_by}

-- how many LFs there are
unfoldable pub feeds : List ℕ → ℕ
feeds s = count_by (λ b. eqb b 10) s

-- "one more than the LFs before that place in its own text"
unfoldable pub line_of : List ℕ → ℕ → ℕ
line_of s place = feeds (take place s) + 1
