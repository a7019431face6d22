-- The blocks, definitions and paragraphs of a note from a place on.
use Rattle.std.specs.Prelude.{ℕ, zero, suc, ◌+◌, ◌-◌, ◌*◌, List, ◌++◌, cond, ltb, length, get_or, set, take, drop}
use Rattle.scan.specs.Reading.{leap}
use Rattle.block.specs.Block.{Placed}
use Rattle.block.specs.Reading.{part_length, block_here}
use Rattle.row.specs.declared.Definition.{Definition}
use Rattle.definition.specs.Reading.{definitions_from, definitions_in, paragraph_from, paragraphs_in}
use Rattle.walk.specs.declared.Cursor.{Cursor}

-- the bytes of s from place a up to place e
abbrev pub placed_between : List ℕ → ℕ → ℕ → Placed
placed_between s a e = record { at = a; bytes = take (e - a) (drop a s) }

-- the blocks of the note s from place i on, where a line starts
unfoldable pub blocks_from : List ℕ → ℕ → List Placed
blocks_from s i = leap part_length block_here 0 (drop i s) i

unfoldable pub paragraphs_from : List ℕ → ℕ → List Placed
paragraphs_from s i = paragraphs_in s (blocks_from s i)

-- the definitions from place c.at on of the block that ends at c.end, and those of the blocks after it
unfoldable pub definitions_after : List ℕ → Cursor → List Definition
definitions_after s c = (definitions_from (take c.end s) c.at).definitions ++ definitions_in s (blocks_from s c.end)

-- what the definitions from place c.at on leave of that block, and the paragraphs of the blocks after it
unfoldable pub paragraphs_after : List ℕ → Cursor → List Placed
paragraphs_after s c = paragraph_from (take c.end s) (definitions_from (take c.end s) c.at).after ++ paragraphs_from s c.end

-- ---- a list of paragraphs: number 2 * k is the start of paragraph k, and the next number its end
abbrev pub start_of : List ℕ → ℕ → ℕ
start_of list k = get_or list (2 * k) 0

abbrev pub end_of : List ℕ → ℕ → ℕ
end_of list k = get_or list (2 * k + 1) 0

-- the list with the start and the end of paragraph k, as far as there is room
abbrev pub remembered : List ℕ → ℕ → ℕ → ℕ → List ℕ
remembered list k start end = set (set list (2 * k) start) (2 * k + 1) end

-- the end of the block whose paragraph ends at place e: after the LF there, if the note goes on
unfoldable pub next_of : List ℕ → ℕ → ℕ
next_of s e = cond (ltb e (length s)) (e + 1) e

-- where paragraph k is looked for: at the note's start, or from the end of the block of the paragraph before it
unfoldable pub from : List ℕ → List ℕ → ℕ → ℕ
from s list zero = 0
from s list (suc k) = next_of s (end_of list k)
