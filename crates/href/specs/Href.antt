-- What stands in an href for a destination.
use Rattle.std.specs.Prelude.{ℕ, ◌/◌, ◌%◌, Bool, cond, ◌||◌, get_or, eqb}
use mathlib.Core.List.{List, [], ◌∷◌, flat_map}
use Rattle.scan.specs.Byte.{within}
use Rattle.scan.specs.Ascii.{ascii}
use Rattle.escaping.specs.Escaping.{Undone}
use Rattle.escaping.specs.Clean.{among}

-- bytes 65-90, 97-122 and 48-57
abbrev pub letter_or_digit : ℕ → Bool
letter_or_digit b = within 65 90 b || within 97 122 b || within 48 57 b

-- "ASCII letters, digits and `-_.~!*'();:@=+$,/?%#` stay"
unfoldable pub stays : ℕ → Bool
stays b = letter_or_digit b || among (ascii "-_.~!*'();:@=+$,/?%#") b

unfoldable pub hex_digit : ℕ → ℕ
hex_digit d = get_or (ascii "0123456789ABCDEF") d 0

-- "`%` and two capital hexadecimal digits"
abbrev pub percent : ℕ → List ℕ
percent b = 37 ∷ hex_digit (b / 16) ∷ hex_digit (b % 16) ∷ []

-- "`&` becomes `&amp;`, every other byte is `%` and two capital hexadecimal digits"
unfoldable pub href_byte : ℕ → List ℕ
href_byte b = cond (stays b) (b ∷ []) (cond (eqb b 38) (ascii "&amp;") (percent b))

-- "In D, escapes undone"
pub data Href : List ℕ → List ℕ → Type 0 where
  href : {l m : List ℕ} → Undone l m → Href l (flat_map href_byte m)
