-- Kinds of bytes, and what an escape is.
use Rattle.std.specs.Prelude.{ℕ, List, Bool, ◌&&◌, ◌||◌, get_or, leb, eqb}

-- from lo to hi, both among them
abbrev pub within : ℕ → ℕ → ℕ → Bool
within lo hi b = leb lo b && leb b hi

-- "ASCII punctuation (bytes 33-47, 58-64, 91-96, 123-126)"
abbrev pub punctuation : ℕ → Bool
punctuation b = within 33 47 b || within 58 64 b || within 91 96 b || within 123 126 b

-- space, tab, LF
abbrev pub blank : ℕ → Bool
blank b = eqb b 32 || eqb b 9 || eqb b 10

-- "An escape is `\` and ASCII punctuation": one stands at the front of s
abbrev pub escapes : List ℕ → Bool
escapes s = eqb (get_or s 0 0) 92 && punctuation (get_or s 1 0)
