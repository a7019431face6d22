-- For each n below a bound where the last maximal run of exactly n backticks ends.
use Rattle.std.specs.Prelude.{ℕ, ◌+◌, ◌≤◌, ◌<◌, ◌≡◌, List, Bool, not, get_or, Option, IfSome}
use Rattle.inline.specs.Pieces.{backtick, MaximalBackticks}

-- a byte that is no backtick
abbrev pub other_byte : ℕ → Bool
other_byte b = not (backtick b)

-- the table has a place for the lengths below this one
abbrev pub lengths : ℕ
lengths = 1024

-- a maximal run of exactly n ends at place e
pub record EndsAt (p : List ℕ) (n e : ℕ) : Type 0 where
  pub place : ℕ
  pub run : MaximalBackticks p place n
  pub ends : place + n ≡ e

pub record LastRuns (p t : List ℕ) : Type 0 where
  -- no maximal run of exactly n ends later than the table says
  pub covers : (n b : ℕ) → n < lengths → MaximalBackticks p b n → b + n ≤ get_or t n 0
  -- and what the table says, where it is not 0, is the end of one
  pub real : (n : ℕ) → 0 < n → n < lengths → 0 < get_or t n 0 → EndsAt p n (get_or t n 0)

-- the table is made, or is still to be made
abbrev pub Ready : List ℕ → Option (List ℕ) → Type 0
Ready p t = IfSome t (LastRuns p)
