-- Opening parentheses that nothing closes before the next byte that ends every destination.
use Rattle.std.specs.Prelude.{ℕ, zero, suc, ◌+◌, ◌-◌, ◌≤◌, ◌<◌, ◌≡◌, List, [], ◌∷◌, Bool, true, false, cond, not, ◌&&◌, ◌||◌, length, get_or, drop, eqb}
use Rattle.scan.specs.Reading.{bare}
use Rattle.target.specs.Target.{control}

-- whether the backslashes just before the next byte are of odd number, where `odd` says it of those before b
abbrev pub odd_after : Bool → ℕ → Bool
odd_after odd b = eqb b 92 && not odd

-- the backslashes just before place i are of odd number
unfoldable pub slashed : List ℕ → ℕ → Bool
slashed s zero = false
slashed s (suc i) = odd_after (slashed s i) (get_or s i 0)

abbrev pub parenthesis : ℕ → Bool
parenthesis b = eqb b 40 || eqb b 41

-- closing parentheses from b on that have nothing to close, where c are there after it; they count up to the next control byte
unfoldable pub closers_before : ℕ → ℕ → Bool → ℕ
closers_before c b odd = cond (control b) 0 (cond (bare 41 b odd) (c + 1) (cond (bare 40 b odd) (c - 1) c))

unfoldable pub closers : Bool → List ℕ → ℕ
closers odd [] = 0
closers odd (b ∷ s) = closers_before (closers (odd_after odd b) s) b odd

-- an opening parenthesis that nothing closes, where c closing ones after it have nothing to close
abbrev pub unclosed : ℕ → ℕ → Bool → Bool
unclosed c b odd = bare 40 b odd && eqb c 0

-- one stands at place i
abbrev pub unclosed_at : List ℕ → ℕ → Bool
unclosed_at s i = unclosed (closers (slashed s (suc i)) (drop (suc i) s)) (get_or s i 0) (slashed s i)

-- from place k on the table m tells of each byte of s whether it stands at such a place
pub record Marks (s : List ℕ) (k : ℕ) (m : List Bool) : Type 0 where
  pub marked : (i : ℕ) → k ≤ i → i < length s → get_or m i false ≡ unclosed_at s i

-- The table has room for one mark more, which tells whether it is made: the marks of s from place k on, or still to be made.
pub record Prepared (s : List ℕ) (k : ℕ) (m : List Bool) : Type 0 where
  pub wide : length s < length m
  pub made : get_or m (length s) false ≡ true → Marks s k m
