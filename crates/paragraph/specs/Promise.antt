-- The brackets that are open, a step past a bracket, and what the whole reading of a paragraph answers.
use Rattle.std.specs.Prelude.{ℕ, Bool, ◌+◌, ◌≤◌, ◌<◌, ◌^◌, ◌≡◌, List, reverse, length, get_or, take, set, map, replicate, Result, None, false}
use Rattle.line.specs.Line.{line_of}
use Rattle.line.specs.Promise.{Before}
use Rattle.note.specs.Note.{depth_limit}
use Rattle.marking.specs.Marking.{Role, role}
use Rattle.marking.specs.Reading.{Match, sort_of, found_by, stack_by, piece_at}
use Rattle.marking.specs.ReadingSpans.{spans, over}
use Rattle.row.specs.declared.Definition.{Definition}
use Rattle.span.specs.Row.{whole_rows}
use Rattle.inline.specs.Tails.{Tail}
use Rattle.inline.specs.Reading.{grammar}
use Rattle.most.specs.Most.{ends, held}
use Rattle.step.specs.Promise.{Opening, open_end, Steps}
use Rattle.step.specs.Reading.{rows_for, stored_all}
use Rattle.step.specs.Promise.{last_place}
use Rattle.step.specs.declared.Walk.{Walk}
use Rattle.paragraph.specs.declared.Bracket.{Bracket}
use Rattle.paragraph.specs.declared.Lent.{Lent as LentRoom}
use Rattle.paragraph.specs.declared.Deep.{Deep}
use Rattle.paragraph.specs.Tally.{number_of, in_note, tally_of}

abbrev pub bracket : ℕ → ℕ → Bracket
bracket at line = record { at = at; line = line }

-- what is lent, before anything is written in it; it has n marks
abbrev pub cleared : (n : ℕ) → LentRoom n
cleared n = record { stack = replicate depth_limit (bracket 0 0); runs = None; marks = replicate n false }

-- the places on the stack, and the lines
abbrev pub places : List Bracket → List ℕ
places = map (λ (b : Bracket). b.at)

abbrev pub lines : List Bracket → List ℕ
lines = map (λ (b : Bracket). b.line)

-- the places of the brackets that are open, the innermost first
abbrev pub open_places : Walk → List Bracket → List ℕ
open_places w stack = reverse (take w.depth (places stack))

-- In the paragraph p at place `offset` of the note s, the stack has room for as many brackets as may be open. Each place on it is that of a `[` or
-- `![` that ends before the walk's; and while one of so many rows can still be stored, the line beside it is its line.
pub record Waits (s : List ℕ) (offset : ℕ) (p : List ℕ) (rows : ℕ) (w : Walk) (stack : List Bracket) : Type 0 where
  pub room : depth_limit ≤ length stack
  pub fits : w.depth ≤ depth_limit
  pub each : (i : ℕ) → i < w.depth → Opening p (get_or (places stack) i 0) × (open_end p (get_or (places stack) i 0) ≤ w.at)
  pub lines_are : w.row < rows → (i : ℕ) → i < w.depth → get_or (lines stack) i 0 ≡ line_of s (offset + get_or (places stack) i 0)

-- past an opening piece that ends at place `end`, whose bracket is open from now on
abbrev pub opened : ℕ → Walk → Walk
opened end w = record { at = end; last = w.last; row = w.row; depth = w.depth + 1; line = w.line }

-- the stack with the walk's place and this line on top
abbrev pub pushed : List Bracket → Walk → ℕ → List Bracket
pushed stack w line = set stack w.depth (bracket w.at line)

-- the stack has room for the walk's place and its line, and both are 32-bit numbers, as is the place `end` after it
pub record Room (offset : ℕ) (w : Walk) (end : ℕ) (stack : List Bracket) : Type 0 where
  pub inside : w.depth < length stack
  pub onward : w.at < end
  pub fits : offset + end < 2 ^ 32

-- a `]` at the walk's place, while a bracket is open
pub record Closing (p : List ℕ) (w : Walk) : Type 0 where
  pub inside : w.at < length p
  pub close_at : get_or p w.at 0 ≡ 93
  pub some_open : 0 < w.depth

-- a paragraph from place `start` to place `end` of the note: its places and the numbers of `count` definitions are 32-bit numbers, as many rows
-- as the note has bytes can be counted on from those of w, and the line of w is one of an earlier place
pub record Lies (note : List ℕ) (start end count : ℕ) (w : Walk) : Type 0 where
  pub ordered : start ≤ end
  pub inside : end ≤ length note
  pub places : length note < 2 ^ 32
  pub definitions : count < 2 ^ 32
  pub rows : w.row + length note < 2 ^ 64
  pub line : Before note w.line start

-- what is lent to a paragraph has room for as many brackets as may be open, and for a mark for each byte of the note and one more
pub record Lent (note : List ℕ) (stack : List Bracket) (marks : List Bool) : Type 0 where
  pub places : depth_limit ≤ length stack
  pub bytes : length note < length marks

module _ (s : List ℕ) (offset : ℕ) (p : List ℕ) (labels : List (List ℕ)) (ds : List Definition) where
  -- the role of the piece at a place
  abbrev pub role_at : ℕ → Role
  role_at at = role (piece_at (grammar p labels) at).kind

  -- what the piece at v's place comes to where these brackets are open
  abbrev pub match_at : Walk → List ℕ → Match Tail
  match_at v waiting = found_by (λ a. sort_of ((grammar p labels).kind_at a)) (λ a. (grammar p labels).tail_at ((grammar p labels).end_at a) v.at) (last_place v.last) waiting (role_at v.at)

  -- A step past a bracket, from v with a stack and the table t to w with the stack' and the table u.
  pub record Brackets (v : Walk) (stack : List Bracket) (t : List ℕ) (w : Walk) (stack' : List Bracket) (u : List ℕ) : Type 0 where
    pub steps : Steps s offset p labels ds (match_at v (open_places v stack)) v t w u
    pub still_open : open_places w stack' ≡ stack_by v.at (open_places v stack) (role_at v.at)
    pub waits : Waits s offset p (whole_rows t) w stack'
    pub counted : Before s w.line (offset + v.at)

  -- ---- the whole paragraph
  -- from row k on: the first bracket too many; or where the walk stands at the end, and then the table with the rows of all spans
  pub record Reads (k : ℕ) (t : List ℕ) (r : Result Walk Deep) (u : List ℕ) : Type 0 where
    pub walk : Walk
    pub answer : r ≡ tally_of (in_note offset (over depth_limit (grammar p labels))) walk
    pub row : number_of r ≡ 0 → walk.row ≡ k + length (spans (grammar p labels))
    pub line : number_of r ≡ 0 → Before s walk.line (offset + length p)
    pub table : number_of r ≡ 0 → u ≡ stored_all s t k (rows_for offset p labels ds)
    -- no span is empty
    pub few : number_of r ≡ 0 → length (spans (grammar p labels)) ≤ length p
    -- each ends with a byte of its own, and brackets that are too many are held open
    pub few_ends : number_of r ≡ 0 → length (spans (grammar p labels)) ≤ ends p
    pub deep : number_of r ≡ 4 → depth_limit ≤ held p
