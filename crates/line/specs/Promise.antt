-- Lines, and what going on from one of them answers.
use Rattle.std.specs.Prelude.{ℕ, ◌+◌, ◌≤◌, ◌<◌, ◌≡◌, List, Bool, cond, length, drop}
use Rattle.block.specs.Reading.{line_length}
use Rattle.line.specs.Line.{line_of}
use Rattle.line.specs.declared.Line.{Line}

-- before the first line
abbrev pub none : Line
none = record { number = 0; end = 0 }

-- the line on which a place of s stands: it goes on from there past the next LF
abbrev pub line_at : List ℕ → ℕ → Line
line_at s place = record { number = line_of s place; end = place + line_length (drop place s) }

-- that line where it is asked for, and else the earlier one
abbrev pub line_if : Bool → List ℕ → Line → ℕ → Line
line_if asked s from place = cond asked (line_at s place) from

-- l is `none`, or the line of a place of s that is not after `place`
pub record Before (s : List ℕ) (l : Line) (place : ℕ) : Type 0 where
  -- from `place` up to its end each place is on it
  pub there : (p : ℕ) → place ≤ p → p < l.end → l ≡ line_at s p
  pub next : l.end < length s → line_of s l.end ≡ l.number + 1
  pub few : l.number ≤ place + 1
  pub inside : place ≤ length s
