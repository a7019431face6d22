-- Text on the page, as it is computed.
use Rattle.std.specs.Prelude.{ℕ, Bool, true, false, cond, not, ◌||◌, take, eqb}
use mathlib.Core.List.{List, [], ◌∷◌, flat_map}
use Rattle.scan.specs.Byte.{escapes, within}
use Rattle.scan.specs.Reading.{run}
use Rattle.escaping.specs.Escaping.{escaped}

-- the bytes with their escapes undone
unfoldable pub undone : List ℕ → List ℕ
undone [] = []
undone (b ∷ []) = b ∷ []
undone (b ∷ p ∷ s) = elim (escapes (b ∷ p ∷ s)) [ true ↦ p ∷ undone s | false ↦ b ∷ undone (p ∷ s) ]

-- how many bytes stand before the first byte that s gives: the backslash of an escape
abbrev pub backslash : List ℕ → ℕ
backslash s = cond (escapes s) 1 0

-- bytes other than `mark` that are not escaped: with 92 they stand for themselves in text, with 10 in code
abbrev pub as_is : ℕ → ℕ → Bool
as_is mark b = not (eqb b 38 || eqb b 60 || eqb b 62 || eqb b 34 || eqb b mark)

-- those of them that lie outside two ranges: from 34 to 38, and from 60 to 62
abbrev pub clear : ℕ → ℕ → Bool
clear mark b = not (within 34 38 b || within 60 62 b || eqb b mark)

-- the bytes as they are at the front of l
abbrev pub front : ℕ → List ℕ → List ℕ
front mark l = take (run (as_is mark) l) l

abbrev pub text_of : List ℕ → List ℕ
text_of l = flat_map escaped (undone l)
