-- A code span on the page, as it is computed.
use Rattle.std.specs.Prelude.{ℕ, ◌-◌, Bool, true, false, cond, ◌&&◌, ◌||◌, length, get_or, take, drop, eqb, ltb}
use mathlib.Core.List.{List, ◌++◌, map, flat_map}
use Rattle.scan.specs.Reading.{run}
use Rattle.escaping.specs.Escaping.{escaped}
use Rattle.code.specs.Code.{feed_as_space, code_open, code_close}

-- a space, or an LF, which becomes one
abbrev pub space_or_lf : ℕ → Bool
space_or_lf b = eqb b 32 || eqb b 10

-- how many bytes are dropped at each end of a code span's bytes: one where a run of spaces stands at the front, does not reach the end,
-- and a space stands there too
unfoldable pub margin : List ℕ → ℕ
margin l = cond (ltb 0 (run space_or_lf l) && ltb (run space_or_lf l) (length l) && space_or_lf (get_or l (length l - 1) 0)) 1 0

abbrev pub code_content : List ℕ → List ℕ
code_content l = map feed_as_space (take (length l - margin l - margin l) (drop (margin l) l))

abbrev pub code_of : List ℕ → List ℕ
code_of l = flat_map escaped (code_content l)

-- with tags, or without
abbrev pub code_element : Bool → List ℕ → List ℕ
code_element true l = code_open ++ code_of l ++ code_close
code_element false l = code_of l
