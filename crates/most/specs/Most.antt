-- What a paragraph can have at the most, by its bytes.
use Rattle.std.specs.Prelude.{ℕ, ◌+◌, List, [], ◌∷◌, Bool, true, false, cond, not, ◌&&◌, ◌||◌, eqb, get_or}
use Rattle.block.specs.Block.{Placed}

-- a bracket, a backtick or a backslash
abbrev pub special : ℕ → Bool
special b = ((eqb b 91 || eqb b 93) || eqb b 96) || eqb b 92

-- a `]`, or the last backtick of a run, by the byte after it: every span ends with one, and no two with the same
abbrev pub ends_span : ℕ → ℕ → Bool
ends_span b next = eqb b 93 || (eqb b 96 && not (eqb next 96))

abbrev pub bit : Bool → ℕ
bit y = cond y 1 0

-- the bytes with which a span may end
unfoldable pub ends : List ℕ → ℕ
ends [] = 0
ends (b ∷ s) = bit (ends_span b (get_or s 0 0)) + ends s

-- the first special byte, 0 where there is none
unfoldable pub look : List ℕ → ℕ
look [] = 0
look (b ∷ s) = cond (special b) b (look s)

-- whether a `[` may stay open where this follows it: no `]` comes first
abbrev pub stays : List ℕ → Bool
stays s = not (eqb (look s) 93)

-- the brackets that may stay open: a `[` that a `]` follows before anything else opens, escapes or is code is closed by it
unfoldable pub held : List ℕ → ℕ
held [] = 0
held (b ∷ s) = bit (eqb b 91 && stays s) + held s

-- the same of several paragraphs
unfoldable pub ends_of : List Placed → ℕ
ends_of [] = 0
ends_of (p ∷ ps) = ends p.bytes + ends_of ps

unfoldable pub held_of : List Placed → ℕ
held_of [] = 0
held_of (p ∷ ps) = held p.bytes + held_of ps
