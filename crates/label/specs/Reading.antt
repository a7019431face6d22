-- Where a label ends, and whether bytes are one.
use Rattle.std.specs.Prelude.{ℕ, ◌+◌, ◌-◌, List, [], ◌∷◌, ◌++◌, Bool, false, cond, not, ◌&&◌, ◌||◌, length, get_or, take, leb, eqb, None, Option, Some}
use Rattle.std.specs.List.{list_any}
use Rattle.scan.specs.Byte.{punctuation, blank}
use Rattle.scan.specs.Reading.{closing}
use Rattle.text.specs.Sequences.{characters}
use Rattle.label.specs.Label.{label_limit}

-- some byte is not blank
unfoldable pub inky : List ℕ → Bool
inky l = list_any (λ b. not (blank b)) l

-- what a label needs besides its brackets, where `inked` and n tell of the bytes before l
unfoldable pub fits_after : Bool → ℕ → List ℕ → Bool
fits_after inked n l = (inked || inky l) && leb (n + characters l) label_limit

unfoldable pub fits : List ℕ → Bool
fits l = fits_after false 0 l

-- the place of a label's closing bracket, by where the text before it ends
abbrev pub judged : List ℕ → ℕ → Option ℕ → Option ℕ
judged s at (Some e) = cond (fits (take (e - at) s)) (Some e) None
judged s at None = None

-- from just after a `[`, at place `at`: the place of the label's `]`
unfoldable pub label_end : List ℕ → ℕ → Option ℕ
label_end s at = judged s at (closing 93 91 93 s at)

abbrev pub is_at : ℕ → Option ℕ → Bool
is_at n (Some e) = eqb e n
is_at n None = false

-- the byte at i of l starts an escape, where a `]` follows l
abbrev pub escapes_in : List ℕ → ℕ → Bool
escapes_in l i = eqb (get_or l i 0) 92 && (eqb (i + 1) (length l) || punctuation (get_or l (i + 1) 0))

-- neither a bracket nor a backslash
abbrev pub plain : ℕ → Bool
plain b = not (eqb b 91 || eqb b 93 || eqb b 92)

-- set before a `]`, l ends at that bracket
unfoldable pub unclosed : List ℕ → Bool
unclosed l = is_at (length l) (closing 93 91 93 (l ++ 93 ∷ []) 0)

-- l, "set between `[` and `]`", is exactly one label
unfoldable pub is_label : List ℕ → Bool
is_label l = unclosed l && fits l
