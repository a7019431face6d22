-- The characters of two bytes that the table is about: U+0080 to U+052F.
use Rattle.std.specs.Prelude.{ℕ, ◌+◌, ◌*◌, ◌-◌, List, [], ◌∷◌, Bool, false, not, ◌&&◌, ltb}
use Rattle.scan.specs.Byte.{within}

-- whether b and x are one of them
unfoldable pub pair : ℕ → ℕ → Bool
pair b x = within 0xC2 0xD4 b && (within 0x80 0xBF x && ltb (b * 64 + x) 13744)

-- which one: (b - 0xC0) * 64 + (x - 0x80)
unfoldable pub code_of : ℕ → ℕ → ℕ
code_of b x = b * 64 + x - 12416

-- whether l begins with a byte, and none from 0x80 to 0xBF
abbrev pub headed : List ℕ → Bool
headed [] = false
headed (b ∷ l) = not (within 0x80 0xBF b)
