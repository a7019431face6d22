-- What comparing two labels in step asks at a place, as long as no table is needed.
use Rattle.std.specs.Prelude.{ℕ, ◌+◌, ◌<◌, ◌≡◌, List, Bool, true, false, not, ◌&&◌, ◌||◌, length, get_or, leb, ltb, eqb}
use Rattle.std.specs.Bool.{beq}
use Rattle.casefold.specs.Fold.{lower}

-- whether the blanks from i to p count as a space: there are some, and not at the start
abbrev pub gap : ℕ → ℕ → Bool
gap i p = not (eqb i 0) && not (eqb p i)

-- whether a and b are level, where they were read to i and j and the blanks there reach to p and q: both are over, or neither is and the
-- gaps agree
unfoldable pub level : List ℕ → List ℕ → ℕ → ℕ → ℕ → ℕ → Bool
level a b i j p q = beq (leb (length a) p) (leb (length b) q) && (leb (length a) p || beq (gap i p) (gap j q))

-- the last byte that is ASCII
abbrev pub last_ascii : ℕ
last_ascii = 127

-- whether one of two bytes is beyond ASCII
abbrev pub beyond : ℕ → ℕ → Bool
beyond x y = ltb last_ascii x || ltb last_ascii y

-- whether they are surely not equal, where x and y come next, 0 where a label is over: ASCII bytes are unlike when folded, or the labels
-- are not level
unfoldable pub apart : List ℕ → List ℕ → ℕ → ℕ → ℕ → ℕ → ℕ → ℕ → Bool
apart a b i j p q x y = (not (beyond x y) && not (eqb (lower x) (lower y))) || not (level a b i j p q)

-- a byte that is surely no blank, and at most m: the place past the blanks is its own
abbrev pub plain : ℕ → ℕ → Bool
plain m x = ltb 32 x && leb x m

-- whether x and y are such bytes of ASCII, and unlike when folded
unfoldable pub unlike : ℕ → ℕ → Bool
unlike x y = (plain last_ascii x && plain last_ascii y) && not (eqb (lower x) (lower y))

-- whether one and the same such byte stands in a at i and in b at j
unfoldable pub same : ℕ → List ℕ → List ℕ → ℕ → ℕ → Bool
same m a b i j = not (leb (length a) i || leb (length b) j) && (eqb (get_or a i 0) (get_or b j 0) && plain m (get_or a i 0))

-- such a byte stands in both at each of n places from i and j on, and not at the next
pub record SameCount (m : ℕ) (a b : List ℕ) (i j n : ℕ) : Type 0 where
  pub each : (k : ℕ) → k < n → same m a b (i + k) (j + k) ≡ true
  pub stops : same m a b (i + n) (j + n) ≡ false
