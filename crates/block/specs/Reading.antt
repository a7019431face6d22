-- Blank lines and blocks, by reading from the front.
use Rattle.std.specs.Prelude.{ℕ, suc, List, [], ◌∷◌, Bool, true, false, cond, ◌&&◌, ◌||◌, length, get_or, take, leb, eqb}
use Rattle.scan.specs.Reading.{run, leap}
use Rattle.block.specs.Line.{padding}
use Rattle.block.specs.Block.{Placed}

-- an end of line stands at place i of s
abbrev pub line_ends : List ℕ → ℕ → Bool
line_ends s i = leb (length s) i || eqb (get_or s i 0) 10

-- the line that s starts with is blank
unfoldable pub blank_line : List ℕ → Bool
blank_line s = line_ends s (run padding s)

-- the length of the line that s starts with, its LF among it
unfoldable pub line_length : List ℕ → ℕ
line_length [] = 0
line_length (b ∷ s) = elim (eqb b 10) [ true ↦ 1 | false ↦ suc (line_length s) ]

-- how far a block goes on, where `fresh` says that a line starts at the front
unfoldable pub block_rest : Bool → List ℕ → ℕ
block_rest fresh [] = 0
block_rest fresh (b ∷ s) = elim (fresh && blank_line (b ∷ s)) [ true ↦ 0 | false ↦ suc (block_rest (eqb b 10) s) ]

-- the length of the block whose first line starts at the front of s
unfoldable pub block_length : List ℕ → ℕ
block_length s = block_rest false s

-- a blank line, or a block
unfoldable pub part_length : List ℕ → ℕ
part_length s = cond (blank_line s) (line_length s) (block_length s)

unfoldable pub block_here : List ℕ → ℕ → List Placed
block_here s at = cond (blank_line s) [] (record { at = at; bytes = take (block_length s) s } ∷ [])

-- the blocks of the note s
unfoldable pub blocks : List ℕ → List Placed
blocks s = leap part_length block_here 0 s 0
